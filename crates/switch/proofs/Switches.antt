-- Laws of requests that alter a client's active modules: the bits of masks, and the records. Assumes nothing.
use Rattle.std.specs.Prelude.{Option, Some, None}
use Prim.Native.Nat.{ℕ, ◌≤◌, ◌<◌}
use native.Mathlib.Omega.{arith}
use mathlib.Core.Path.{◌≡◌, refl, sym, ap, fun_ext, ◌∙◌}
use mathlib.Core.Bool.{Bool, true, false, not, ◌&&◌, ◌||◌}
use mathlib.Core.List.{List, [], ◌∷◌, ◌++◌}
use lib.Dec.{eqb, ltb}
use lib.ListN.{length, get_or}
use borrow.Author.Tests.{eqb-true, lt-ltb, le-ltb}
use Rattle.ascii.specs.Clauses.Writer.{Puts}
use Rattle.table.specs.Table.{Table}
use Rattle.table.specs.Layout.{table_of}
use Rattle.table.specs.Search.{parameters}
use Rattle.report.specs.Judge.{table_number}
use Rattle.message.specs.Request.{activate, deactivate}
use Rattle.message.specs.Reply.{Reply, active, inactive}
use Rattle.outbox.specs.Outbox.{Record, final, encode, encode_all}
use Rattle.outbox.specs.Clauses.Written.{RoomFor}
use Rattle.outbox.specs.Theorems.{Named}
use Rattle.plain.specs.Node.{Client, closed, connected, Node, with_client, is_active, activated, updates_of}
use Rattle.plain.specs.Answer.{carried, activates, deactivates, in_scope, outcome}
use Rattle.sound.specs.Theorems.{ClientHeld, Sound}
use Rattle.sound.proofs.Accepted.{accepted}
use Rattle.sound.proofs.Records.{inactive_within, written_final}
use Rattle.sound.proofs.Room.{puts_none, puts_after, room_after}
use Rattle.sound.proofs.Steps.{comes_activates}
use Rattle.state.specs.declared.State.{State}
use Rattle.state.specs.View.{is_set, bit, client_at, view}
use Rattle.state.specs.Fit.{past_last}
use Rattle.state.proofs.Becomes.{Sized}
use Rattle.switch.specs.Clauses.Scoped.{Scoped}
use Rattle.state.proofs.Masks.{no_bit, past_last_lem, not_past}
use Rattle.state.proofs.Stands.{fit_is_sound}
use Rattle.outcome.specs.Clauses.Outcome.{Activates}
use Rattle.outcome.specs.Clauses.Ready.{Ready}

-- an accepted table has at most 16 modules
pub few : (table : List ℕ) → table_number table ≡ 0 → (i : ℕ) (m : List ℕ) → Scoped (length (table_of table).modules) i m → i < 16
few table a i m f = let k = (accepted table a).few_modules in let l = f.low in omega arith

-- ## Room

pub inactive_room : (d : List ℕ) (c : ℕ) (m : Option (List ℕ)) → Named m → 32768 ≤ length d → RoomFor d 0 (final c (inactive m))
inactive_room d c m e h =
    let k = (written_final c (inactive m) 72 (inactive_within m e)).short in
    room_after [] (final c (inactive m)) d d 0 (puts_none d) (omega arith) h

-- what a client of a state has active
pub open_bits : (table : List ℕ) (s : State) (values : List ℕ) (c : ℕ) → is_set s.clients.open c ≡ true
    → (j : ℕ) → is_active ((view table s values).clients c) j ≡ bit (get_or s.clients.active c 0) j
unfolding view client_at is_active
open_bits table s values c e j = rw e

held_low : (w : Table) (x : Client) → ClientHeld w x → (j : ℕ) → length w.modules ≤ j → is_active x j ≡ false
unfolding is_active
held_low w closed h j l = refl
held_low w (connected m a) h j l = h.1 j l

-- ## Outcomes

and_none : (b : Bool) → b && false ≡ false
and_none true = refl
and_none false = refl

and-true : (b : Bool) → b && true ≡ b
and-true true = refl
and-true false = refl

-- a module of the table is one of its first m
low_only : (j i m : ℕ) → i < m → ltb j m && eqb j i ≡ eqb j i
low_only j i m h = go (eqb j i) refl
  where
    go : (b : Bool) → eqb j i ≡ b → ltb j m && b ≡ b
    go true e = let k = eqb-true j i e in rw (lt-ltb j m (omega arith))
    go false e = and_none (ltb j m)

module _ (w : Table) (n : Node) (c t : ℕ) (before after values : List ℕ) where
  -- a client's active modules are those of a mask where each bit says so
  switched :
      (f : ℕ → Bool) (rs : List Record) (r : Reply) (mask written : ℕ)
      → ((i : ℕ) → bit mask i ≡ f i) → ((i : ℕ) → length w.modules ≤ i → f i ≡ false)
      → Puts before 0 (encode_all (rs ++ (final c r ∷ []))) after written
      → Activates w n c t before after values values (carried (with_client n c (activated f (n.clients c))) [] rs r) mask written
  switched f rs r mask written h k p =
      record {
        carries =
            record {
              records = rs;
              reply = r;
              is = ap (λ (g : ℕ → Bool). carried (with_client n c (activated g (n.clients c))) [] rs r) (sym (fun_ext h));
              puts = p;
            };
        unstored = refl;
        low = past_last_lem mask (length w.modules) λ j l. h j ∙ k j l;
      }

  pub all_inactive :
      (written : ℕ) → Puts before 0 (encode (final c (inactive None))) after written
      → Activates w n c t before after values values (outcome w n c t (deactivate None)) 0 written
  unfolding outcome in_scope deactivates
  all_inactive written p =
      switched (λ i. is_active (n.clients c) i && not true) [] (inactive None) 0 written
      (λ i. no_bit i ∙ sym (and_none (is_active (n.clients c) i)))
      (λ i l. and_none (is_active (n.clients c) i))
      (puts_after [] (final c (inactive None)) before before 0 (puts_none before) after written p)

  pub one_inactive :
      (name : List ℕ) (i mask : ℕ) → past_last mask (length w.modules) ≡ false → ((j : ℕ) → is_active (n.clients c) j ≡ bit mask j)
      → (next : ℕ) → ((j : ℕ) → bit next j ≡ bit mask j && not (eqb j i))
      → (written : ℕ) → Puts before 0 (encode (final c (inactive (Some name)))) after written
      → Activates w n c t before after values values (deactivates w n c t (λ j. eqb j i) (Some name)) next written
  unfolding deactivates
  one_inactive name i mask low h next k written p =
      switched (λ j. is_active (n.clients c) j && not (eqb j i)) [] (inactive (Some name)) next written
      (λ j. k j ∙ ap (λ (b : Bool). b && not (eqb j i)) (sym (h j)))
      (λ j l. ap (λ (b : Bool). b && not (eqb j i)) (h j ∙ not_past mask (length w.modules) low j l))
      (puts_after [] (final c (inactive (Some name))) before before 0 (puts_none before) after written p)

  -- the modules of a scope too
  module _ (s : Sound w n) (mask : ℕ) (h : (j : ℕ) → is_active (n.clients c) j ≡ bit mask j) (mid : List ℕ) (p written : ℕ) where
    more_active :
        (wanted : ℕ → Bool) (m : Option (List ℕ)) (next : ℕ)
        → ((j : ℕ) → bit next j ≡ bit mask j || (ltb j (length w.modules) && wanted j))
        → Puts before 0 (encode_all (updates_of c wanted n.values 0 (parameters w))) mid p
        → Puts mid p (encode (final c (active m))) after written
        → Activates w n c t before after values values (activates w n c t wanted m) next written
    unfolding activates
    more_active wanted m next k x y =
        switched (λ j. is_active (n.clients c) j || (ltb j (length w.modules) && wanted j))
        (updates_of c wanted n.values 0 (parameters w)) (active m) next written
        (λ j. k j ∙ ap (λ (b : Bool). b || (ltb j (length w.modules) && wanted j)) (sym (h j)))
        (λ j l. rw (held_low w (n.clients c) (s.clients c) j l, le-ltb j (length w.modules) l))
        (puts_after (updates_of c wanted n.values 0 (parameters w)) (final c (active m)) before mid p x after written y)

    all_active :
        (next : ℕ) → ((j : ℕ) → bit next j ≡ bit mask j || ltb j (length w.modules))
        → Puts before 0 (encode_all (updates_of c (λ i. true) n.values 0 (parameters w))) mid p
        → Puts mid p (encode (final c (active None))) after written
        → Activates w n c t before after values values (outcome w n c t (activate None)) next written
    unfolding outcome in_scope
    all_active next k x y =
        more_active (λ i. true) None next (λ j. k j ∙ ap (λ (b : Bool). bit mask j || b) (sym (and-true (ltb j (length w.modules))))) x y

    one_active :
        (name : List ℕ) (i : ℕ) → i < length w.modules
        → (next : ℕ) → ((j : ℕ) → bit next j ≡ bit mask j || eqb j i)
        → Puts before 0 (encode_all (updates_of c (λ j. eqb j i) n.values 0 (parameters w))) mid p
        → Puts mid p (encode (final c (active (Some name)))) after written
        → Activates w n c t before after values values (activates w n c t (λ j. eqb j i) (Some name)) next written
    one_active name i low next k x y =
        more_active (λ j. eqb j i) (Some name) next (λ j. k j ∙ ap (λ (b : Bool). bit mask j || b) (sym (low_only j i (length w.modules) low))) x y

-- ## An activate, at a state that is fit

module _ (table : List ℕ) (s : State) (z : Sized s.clients) (values out : List ℕ) (c : ℕ) (r : Ready table s values out c) where
  abbrev w : Table
  w = table_of table

  abbrev n : Node
  n = view table s values

  sound : Sound w n
  sound = fit_is_sound table s values z r.lent.accepted r.fit

  -- the reply has room after the updates
  pub active_room :
      (wanted : ℕ → Bool) (m : Option (List ℕ)) → Named m
      → (e : List ℕ) (p : ℕ) → Puts out 0 (encode_all (updates_of c wanted n.values 0 (parameters w))) e p → RoomFor e p (final c (active m))
  unfolding activates
  active_room wanted m h e p x =
      let low = r.lent.low in
      let k = (comes_activates w (accepted table r.lent.accepted) n sound c (omega arith) 0 (omega arith) wanted m h).written.short in
      room_after (updates_of c wanted n.values 0 (parameters w)) (final c (active m)) out e p x (omega arith) r.lent.room

  module _ (t : ℕ) (mid after : List ℕ) (p next written : ℕ) where
    pub activated_all :
        (k : ℕ) → k ≡ length w.modules
        → ((j : ℕ) → bit next j ≡ bit (get_or s.clients.active c 0) j || ltb j k)
        → Puts out 0 (encode_all (updates_of c (λ i. true) n.values 0 (parameters w))) mid p
        → Puts mid p (encode (final c (active None))) after written
        → Activates w n c t out after values values (outcome w n c t (activate None)) next written
    activated_all k f h =
        all_active w n c t out after values sound (get_or s.clients.active c 0) (open_bits table s values c r.is_open) mid p written next
        (λ j. h j ∙ ap (λ (m : ℕ). bit (get_or s.clients.active c 0) j || ltb j m) f)

    pub activated_one :
        (name : List ℕ) (i : ℕ) → i < length w.modules
        → ((j : ℕ) → bit next j ≡ bit (get_or s.clients.active c 0) j || eqb j i)
        → Puts out 0 (encode_all (updates_of c (λ j. eqb j i) n.values 0 (parameters w))) mid p
        → Puts mid p (encode (final c (active (Some name)))) after written
        → Activates w n c t out after values values (activates w n c t (λ j. eqb j i) (Some name)) next written
    activated_one name i low h =
        one_active w n c t out after values sound (get_or s.clients.active c 0) (open_bits table s values c r.is_open) mid p written name i low next h
