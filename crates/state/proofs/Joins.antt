-- Laws of the bytes that join the line of client c. Assumes nothing.
use Prim.Native.Nat.{ℕ, ◌+◌, ◌*◌, ◌-◌, ◌≤◌, ◌<◌}
use native.Mathlib.Omega.{arith}
use mathlib.Core.Path.{◌≡◌, refl, sym, subst}
use mathlib.Core.Bool.{Bool, true, false, cond}
use mathlib.Core.List.{List, ◌++◌}
use lib.Dec.{eqb, ltb}
use lib.ListN.{length, get_or, set, drop, length-drop}
use lib.Seq.{length-take-le}
use borrow.Author.Tests.{ltb-true, ltb-false, lt-ltb, le-ltb}
use Rattle.ascii.specs.Bytes.{any}
use Rattle.ascii.specs.Clauses.Writer.{Puts}
use Rattle.message.specs.Line.{Line, whole, overlong}
use Rattle.plain.specs.Node.{closed, connected, receive}
use Rattle.state.specs.declared.Clients.{Clients}
use Rattle.state.specs.View.{is_set, bit, line_bytes, line_at, client_at}
use Rattle.state.specs.Changed.{with_overlong, with_bytes, with_joined}
use Rattle.state.proofs.Becomes.{Becomes, Joinable, Sized, LinesFit}
use Rattle.state.proofs.Areas.{other_line, written}
use Rattle.state.proofs.Received.{receive_closed, receive_overlong, receive_whole, receive_over, any_append}
use Rattle.state.proofs.Cells.{yes, changed, unchanged, Change, becomes, without_line, without_line_lem}
use Rattle.state.proofs.Judged.{is_set_lem, not_set}

-- A closed client stays so, and an open one's line becomes another.
receive_by : (l k : Line) (a : ℕ → Bool) (bs : List ℕ) → receive (connected l a) bs ≡ connected k a → (t : Bool) → cond t (connected k a) closed ≡ receive (cond t (connected l a) closed) bs
receive_by l k a bs e true = sym e
receive_by l k a bs e false = sym (receive_closed bs)

module _ (s : Clients) (c : ℕ) (bs : List ℕ) where
  -- nothing is changed
  same : Change s s c (get_or s.open c 0) (get_or s.overlong c 0) (get_or s.active c 0) (get_or s.length c 0) (line_bytes s c)
  same =
      record {
        is_open = unchanged s.open c;
        is_overlong = unchanged s.overlong c;
        mask = unchanged s.active c;
        size = unchanged s.length c;
        own = refl;
        others = λ d n. refl;
      }

  stays : is_set s.overlong c ≡ true → Becomes s c (receive (client_at s c) bs) (Joinable s c bs) s
  unfolding client_at line_at is_set
  stays e =
      let a = bit (get_or s.active c 0) in
      becomes same (receive (client_at s c) bs) (Joinable s c bs)
      (rw e (receive_by overlong overlong a bs (receive_overlong a bs) (yes (get_or s.open c 0))))
      (λ m f k. f)

module _ (s : Clients) (z : Sized s) (room : length s.lines ≡ 8192) (c : ℕ) (h : c < 8) (fits : LinesFit s) (bs : List ℕ) where
  line_length : length (line_bytes s c) ≡ get_or s.length c 0
  unfolding line_bytes
  line_length =
      let n = fits c in
      length-take-le (get_or s.length c 0) (drop (1024 * c) s.lines) (rw length-drop (omega arith))

  module _ (w : is_set s.overlong c ≡ false) where
    overflows : 1024 < get_or s.length c 0 + length bs → Becomes s c (receive (client_at s c) bs) (Joinable s c bs) (with_overlong s c)
    unfolding client_at line_at is_set any with_overlong
    overflows o =
        let a = bit (get_or s.active c 0) in
        let n = fits c in
        let e = receive_over a bs (line_bytes s c) (rw line_length n) (rw line_length o) in
        becomes (without_line_lem s z c h 1) (receive (client_at s c) bs) (Joinable s c bs)
        (rw w (receive_by (whole (line_bytes s c)) overlong a bs e (yes (get_or s.open c 0))))
        (λ m f k. record { short = refl; no_feed = refl; dropped = refl; within = f.within; forgotten = rw k.is_open })

    module _ (o : get_or s.length c 0 + length bs ≤ 1024) where
      with_line_lem : Change s (with_bytes s c bs) c (get_or s.open c 0) (get_or s.overlong c 0) (get_or s.active c 0) (get_or s.length c 0 + length bs) (line_bytes s c ++ bs)
      unfolding line_bytes with_bytes
      with_line_lem =
          let sized = changed s.length c (get_or s.length c 0 + length bs) (rw z.size h) in
          record {
            is_open = unchanged s.open c;
            is_overlong = unchanged s.overlong c;
            mask = unchanged s.active c;
            size = sized;
            own = rw sized.own (written bs s.lines (1024 * c) (get_or s.length c 0) (rw room (omega arith)));
            others = λ d q. rw (sized.others d q) (other_line bs s.lines c (get_or s.length c 0) d (get_or s.length d 0) q o (fits d));
          }

      extends : Becomes s c (receive (client_at s c) bs) (Joinable s c bs) (with_bytes s c bs)
      unfolding client_at line_at is_set
      extends =
          let a = bit (get_or s.active c 0) in
          let e = receive_whole a bs (line_bytes s c) (rw line_length o) in
          becomes with_line_lem (receive (client_at s c) bs) (Joinable s c bs)
          (rw w (receive_by (whole (line_bytes s c)) (whole (line_bytes s c ++ bs)) a bs e (yes (get_or s.open c 0))))
          (λ m f k.
          record {
            short = le-ltb 1024 (get_or s.length c 0 + length bs) o;
            no_feed = any_append (λ b. eqb b 10) (line_bytes s c) bs f.no_feed k.no_feed;
            dropped = rw w;
            within = f.within;
            forgotten = rw k.is_open;
          })

  joins : Becomes s c (receive (client_at s c) bs) (Joinable s c bs) (with_joined s c bs)
  unfolding with_joined
  joins = go (is_set s.overlong c) refl
    where
      within : is_set s.overlong c ≡ false → (u : Bool) → (u ≡ true → 1024 < get_or s.length c 0 + length bs) → (u ≡ false → get_or s.length c 0 + length bs ≤ 1024)
          → Becomes s c (receive (client_at s c) bs) (Joinable s c bs) (cond u (with_overlong s c) (with_bytes s c bs))
      within w true p q = overflows w (p refl)
      within w false p q = extends w (q refl)

      go : (t : Bool) → is_set s.overlong c ≡ t
          → Becomes s c (receive (client_at s c) bs) (Joinable s c bs) (cond t s (cond (ltb 1024 (get_or s.length c 0 + length bs)) (with_overlong s c) (with_bytes s c bs)))
      go true e = stays s c bs e
      go false e = within e (ltb 1024 (get_or s.length c 0 + length bs)) (ltb-true 1024 (get_or s.length c 0 + length bs)) (ltb-false 1024 (get_or s.length c 0 + length bs))

  pub joined_becomes : {r : Clients} → r ≡ with_joined s c bs → Becomes s c (receive (client_at s c) bs) (Joinable s c bs) r
  joined_becomes e = subst (Becomes s c (receive (client_at s c) bs) (Joinable s c bs)) (sym e) joins

-- ## What the code hands back

module _ (s : Clients) (c : ℕ) (bs : List ℕ) where
  pub joined_stays : (get_or s.overlong c 0 ≡ 0 → ⊥) → s ≡ with_joined s c bs
  unfolding with_joined
  joined_stays h = rw (is_set_lem s.overlong c h)

  module _ (w : get_or s.overlong c 0 ≡ 0) (n : get_or s.length c 0 ≤ 1024) where
    pub joined_over : 1024 - get_or s.length c 0 < length bs → without_line s c 1 ≡ with_joined s c bs
    unfolding with_joined with_overlong
    joined_over h = rw (not_set s.overlong c w, lt-ltb 1024 (get_or s.length c 0 + length bs) (omega arith))

    module _ (h : length bs ≤ 1024 - get_or s.length c 0) where
      pub joined_room : c < 8 → length s.lines ≡ 8192 → 1024 * c + get_or s.length c 0 + length bs ≤ length s.lines
      joined_room l e = omega arith

      pub joined_on : {l : List ℕ} {p : ℕ} → Puts s.lines (1024 * c + get_or s.length c 0) bs l p
          → record { «open» = s.open; overlong = s.overlong; active = s.active; length = set s.length c (get_or s.length c 0 + length bs); lines = l } ≡ with_joined s c bs
      unfolding with_joined with_bytes
      joined_on x = rw (not_set s.overlong c w, le-ltb 1024 (get_or s.length c 0 + length bs) (omega arith), x.is)
