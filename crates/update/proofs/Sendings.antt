-- Laws of records that are written one after another, and of updates to clients. Assumes nothing.
use Rattle.std.specs.Prelude.{Option}
use Prim.Native.Nat.{ℕ, suc, ◌+◌, ◌^◌, ◌≤◌, ◌<◌}
use native.Mathlib.Numerals.{add-one}
use native.Mathlib.Omega.{arith}
use mathlib.Core.Path.{◌≡◌, refl, sym, ap, ◌∙◌}
use mathlib.Core.Bool.{Bool, true, false, cond}
use mathlib.Core.List.{List, [], ◌∷◌, ◌++◌, append_assoc, append-nil}
use lib.ListN.{length, drop, length-append, drop_of_length-le}
use lib.Dec.{eqb}
use lib.Seq.{drop-cons}
use Rattle.ascii.specs.Text.{bytes}
use Rattle.ascii.specs.Clauses.Writer.{Puts}
use Rattle.ascii.proofs.Puts.{puts_length, puts_both}
use Rattle.ascii.proofs.Decimal.{seconds_low}
use Rattle.message.specs.Error.{Fault}
use Rattle.message.specs.Reply.{Held, valued, failed, held_as, DataReport, update_word, update_line}
use Rattle.message.specs.Clauses.Said.{report_of}
use Rattle.message.proofs.Said.{held_short, report_length}
use Rattle.outbox.specs.Outbox.{Record, update, body, encode, encode_all}
use Rattle.outbox.specs.Clauses.Written.{RoomFor}
use Rattle.plain.specs.Node.{Client, is_active, client_numbers, updates_to}
use Rattle.sound.proofs.Room.{encode_append, encode_one, puts_none}
use Rattle.state.proofs.Judged.{number_at}
use Rattle.update.specs.declared.Scope.{Scope}
use Rattle.update.specs.declared.Scope.TheVariants.{Module}
use Rattle.update.specs.Clauses.Scope.{wanted}

-- ## Records one after another

-- of all records some are written, and the others are left
pub record Going (d : List ℕ) (at : ℕ) (all left : List Record) (e : List ℕ) (p : ℕ) : Type 0 where
  pub written : List Record
  pub puts : Puts d at (encode_all written) e p
  pub is : all ≡ written ++ left

pub going_start : (d : List ℕ) (at : ℕ) (all : List Record) → Going d at all all d at
going_start d at all = record { written = []; puts = puts_none d; is = refl }

module _ {d : List ℕ} {at : ℕ} {all : List Record} {e : List ℕ} {p : ℕ} where
  pub going_room : (rs left : List Record) → Going d at all (rs ++ left) e p → at + length (encode_all all) ≤ length d → p + length (encode_all rs) ≤ length e
  going_room rs left g h =
      let l : length (encode_all all) ≡ length (encode_all g.written) + (length (encode_all rs) + length (encode_all left)) =
      ap (λ (l : List Record). length (encode_all l)) g.is
      ∙ ap length (encode_append g.written (rs ++ left) ∙ ap (λ (l : List ℕ). encode_all g.written ++ l) (encode_append rs left))
      ∙ length-append (encode_all g.written) (encode_all rs ++ encode_all left)
      ∙ ap (λ (n : ℕ). length (encode_all g.written) + n) (length-append (encode_all rs) (encode_all left)) in
      let n = puts_length g.puts in
      let q = g.puts.ends in
      omega arith

  pub going_on : (rs left : List Record) → Going d at all (rs ++ left) e p → {f : List ℕ} {q : ℕ} → Puts e p (encode_all rs) f q → Going d at all left f q
  going_on rs left g x =
      record {
        written = g.written ++ rs;
        puts = rw (encode_append g.written rs) (puts_both g.puts x);
        is = g.is ∙ sym (append_assoc g.written rs left);
      }

  pub going_end : Going d at all [] e p → Puts d at (encode_all all) e p
  going_end g = rw (g.is, append-nil g.written) g.puts

  pub going_length : {left : List Record} → Going d at all left e p → length e ≡ length d
  going_length g = puts_length g.puts

-- ## An update

word_short : (v : Held) → length (update_word v) ≤ 13
unfolding update_word bytes
word_short (valued v) = omega arith
word_short (failed f) = omega arith

module _ (m a : List ℕ) (o : Option Fault) (v : List ℕ) (t : ℕ) where
  update_short : length m + length a + length v ≤ 1024 → t < 2 ^ 64 → length (update_line (report_of m a (held_as o v) t) ++ bytes "\n") ≤ 65535
  unfolding update_line bytes
  update_short h k =
      simp length-append (omega (arith, seconds_low t k, word_short (held_as o v), held_short o v t, report_length m a (held_as o v) t))

  room_update :
      (d : List ℕ) (at c : ℕ) → length m + length a + length v ≤ 1024 → t < 2 ^ 64
      → at + length (encode_all (update c (report_of m a (held_as o v) t) ∷ [])) ≤ length d → RoomFor d at (update c (report_of m a (held_as o v) t))
  unfolding body
  room_update d at c h k l = record { fits = rw (encode_one (update c (report_of m a (held_as o v) t))) at l; short = update_short h k }

-- ## Updates to one client and the next

module _ (f : ℕ → Client) (i : ℕ) (r : DataReport) where
  updates_cond : (c : ℕ) → updates_to f i r (c ∷ []) ≡ cond (is_active (f c) i) (update c r ∷ []) []
  unfolding updates_to
  updates_cond c = append-nil (cond (is_active (f c) i) (update c r ∷ []) [])

  pub updates_split : (c : ℕ) → c < 8
      → updates_to f i r (drop c client_numbers) ≡ updates_to f i r (c ∷ []) ++ updates_to f i r (drop (c + 1) client_numbers)
  unfolding updates_to
  updates_split c h =
      ap (updates_to f i r) (drop-cons client_numbers c 0 h)
      ∙ ap (λ (k : ℕ). updates_to f i r (k ∷ drop (suc c) client_numbers)) (number_at c h)
      ∙ ap (λ (l : List Record). l ++ updates_to f i r (drop (suc c) client_numbers)) (sym (updates_cond c))
      ∙ ap (λ (k : ℕ). updates_to f i r (c ∷ []) ++ updates_to f i r (drop k client_numbers)) (sym (add-one c))

  pub updates_none : (c : ℕ) → 8 ≤ c → updates_to f i r (drop c client_numbers) ≡ []
  unfolding updates_to
  updates_none c h = ap (updates_to f i r) (drop_of_length-le client_numbers h)

-- to client c, of which b says whether it has the module active
module _ (f : ℕ → Client) (i c : ℕ) (b : Bool) (h : b ≡ is_active (f c) i) where
  is_update_lem : (r : DataReport) → b ≡ true → updates_to f i r (c ∷ []) ≡ update c r ∷ []
  is_update_lem r e = updates_cond f i r c ∙ rw (← h, e)

  pub to_room : (d : List ℕ) (at : ℕ) (m a : List ℕ) (o : Option Fault) (v : List ℕ) (t : ℕ) → b ≡ true → length m + length a + length v ≤ 1024 → t < 2 ^ 64
      → at + length (encode_all (updates_to f i (report_of m a (held_as o v) t) (c ∷ []))) ≤ length d → RoomFor d at (update c (report_of m a (held_as o v) t))
  to_room d at m a o v t e s k l = room_update m a o v t d at c s k (rw (is_update_lem (report_of m a (held_as o v) t) e) at l)

  pub to_active : (r : DataReport) {d e : List ℕ} {at p : ℕ} → b ≡ true → Puts d at (encode (update c r)) e p
      → Puts d at (encode_all (updates_to f i r (c ∷ []))) e p
  to_active r e x = rw (is_update_lem r e, encode_one (update c r)) x

  pub to_none : (r : DataReport) (d : List ℕ) (at : ℕ) → b ≡ false → Puts d at (encode_all (updates_to f i r (c ∷ []))) d at
  to_none r d at e = rw (updates_cond f i r c, ← h, e) (puts_none d)

-- ## Updates to all clients, of which the first c have theirs

module _ {d : List ℕ} {at : ℕ} (f : ℕ → Client) (i : ℕ) (r : DataReport) {e : List ℕ} {p : ℕ} (c : ℕ)
    (g : Going d at (updates_to f i r client_numbers) (updates_to f i r (drop c client_numbers)) e p) where
  module _ (h : c < 8) where
    split : Going d at (updates_to f i r client_numbers) (updates_to f i r (c ∷ []) ++ updates_to f i r (drop (c + 1) client_numbers)) e p
    split = rw (updates_split f i r c h) at g

    pub next_room : at + length (encode_all (updates_to f i r client_numbers)) ≤ length d → p + length (encode_all (updates_to f i r (c ∷ []))) ≤ length e
    next_room l = going_room (updates_to f i r (c ∷ [])) (updates_to f i r (drop (c + 1) client_numbers)) split l

    pub next_sent : {k : List ℕ} {q : ℕ} → Puts e p (encode_all (updates_to f i r (c ∷ []))) k q
        → Going d at (updates_to f i r client_numbers) (updates_to f i r (drop (c + 1) client_numbers)) k q
    next_sent x = going_on (updates_to f i r (c ∷ [])) (updates_to f i r (drop (c + 1) client_numbers)) split x

  pub all_sent_lem : 8 ≤ c → Puts d at (encode_all (updates_to f i r client_numbers)) e p
  all_sent_lem h = going_end (rw (updates_none f i r c h) at g)

-- ## The modules that are sent

pub wants_module : (s : Scope) (i n : ℕ) → s ≡ Module n → eqb i n ≡ wanted s i
wants_module s i n e = rw e
