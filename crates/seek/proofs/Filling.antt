-- Laws of filling an index from a table, one for each way through a function. Assumes nothing.
use Rattle.std.specs.Prelude.{Option, Some, None}
use Prim.Native.Nat.{ℕ, ◌≤◌, ◌<◌}
use native.Mathlib.Omega.{arith}
use mathlib.Core.Path.{◌≡◌, sym, ap, ◌∙◌}
use mathlib.Core.List.{List, ◌++◌}
use lib.ListN.{length, drop}
use borrow.Author.Tests.{ne_eqb, lt-ltb, le-ltb}
use mir.Syntax.{w8}
use mir.Val.{Fits}
use Rattle.hash.specs.Hash.{start_place}
use Rattle.table.specs.Layout.{table_of}
use Rattle.table.specs.Clauses.At.{bytes_of}
use Rattle.table.specs.declared.layout.Part.{Part}
use Rattle.report.specs.Judge.{first_fault, table_number}
use Rattle.report.proofs.Faults.{first_fault_first}
use Rattle.table.specs.declared.layout.Accessible as O
use Rattle.search.specs.Clauses.Left.{name_of}
use Rattle.index.specs.Index.{empty, entered}
use Rattle.index.specs.Accessibles.{accessibles, start_of, index_of}
use Rattle.index.proofs.Searches.{there_within}
use Rattle.index.proofs.Loops.{Filling, filling_start, filling_more, filling_end}
use Rattle.seek.specs.declared.walk.Walk.{Walk}
use Rattle.seek.specs.Clauses.Walk.{Passed, There, Begins, StepIs}
use Rattle.seek.specs.Fill.{fill_number, index_after, Fills}
use Rattle.seek.proofs.Accepted.{accepted_few}
use Rattle.table.specs.declared.layout.Accessible.{Accessible}

-- the accessibles that the walk w has passed are in the index xs
pub record Filled (s : List ℕ) (w : Walk) (xs : List ℕ) : Type 0 where
  pub passed : Passed s w
  pub few : length (accessibles (table_of s)) ≤ 64
  pub filling : Filling start_of (accessibles (table_of s)) w.accessibles xs

pub filled_passed : (s : List ℕ) (w : Walk) (xs : List ℕ) → Filled s w xs → Passed s w
filled_passed s w xs c = c.passed

pub filled_size : (s : List ℕ) (w : Walk) (xs : List ℕ) → Filled s w xs → length xs ≡ 128
filled_size s w xs c = c.filling.size

pub fill_start : (s : List ℕ) (w : Walk) (xs : List ℕ) → table_number s ≡ 0 → Begins s w → xs ≡ empty → Filled s w xs
unfolding empty
fill_start s w xs g b e =
    record { passed = b.passed; few = accepted_few s g; filling = rw b.none_yet (filling_start start_of (accessibles (table_of s)) xs (ap length e) e) }

module _ (s : List ℕ) (w : Walk) (xs : List ℕ) (c : Filled s w xs) (r : Option (O.Accessible × Walk)) (h : StepIs s w r) where
  pub fill_end : r ≡ None → xs ≡ index_of (table_of s)
  unfolding index_of
  fill_end z = filling_end start_of (accessibles (table_of s)) w.accessibles xs c.filling (rw z at h)

  module _ (one : O.Accessible) (v : Walk) (z : r ≡ Some (one, v)) where
    here : There s w.accessibles one v
    here = (rw z at h).there

    -- its number is a byte, and not 255
    pub fill_byte : Fits w8 w.accessibles
    fill_byte = record { fits = omega (arith, there_within (accessibles (table_of s)) w.accessibles _ here.is, c.few) }

    pub fill_more :
        (p : Part) → p ≡ name_of one → (n : ℕ) → n ≡ start_place (bytes_of s v.cursor.name) (bytes_of s p)
        → (ys : List ℕ) → ys ≡ entered n w.accessibles xs → Filled s v ys
    fill_more p hp n hn ys e =
        record {
          passed = here.passed;
          few = c.few;
          filling =
              rw here.after
              (filling_more start_of (accessibles (table_of s)) w.accessibles xs c.filling _ here.is ys (e ∙ rw (hn, hp, here.named)));
        }

-- ## The number

module _ (s index : List ℕ) (n : ℕ) (hn : n ≡ table_number s) where
  pub fill_refused : (n ≡ 0 → ⊥) → Fills s index index n
  unfolding index_after fill_number
  fill_refused h =
      let e : fill_number s index ≡ n = first_fault_first (table_number s) _ (λ z. h (hn ∙ z)) ∙ sym hn in
      record { is = sym e; index = rw (e, ne_eqb n 0 h) }

  pub fill_short : n ≡ 0 → length index < 128 → Fills s index index 18
  unfolding index_after fill_number first_fault
  fill_short h l =
      let e : table_number s ≡ 0 = sym hn ∙ h in
      record { is = rw (e, lt-ltb (length index) 128 l); index = rw (e, lt-ltb (length index) 128 l) }

  -- an accepted one, which has the table's accessibles in the first 128 bytes
  pub fill_done : n ≡ 0 → 128 ≤ length index → (xs : List ℕ) → xs ≡ index_of (table_of s) → Fills s index (xs ++ drop 128 index) 0
  unfolding index_after fill_number first_fault
  fill_done h l xs x =
      let e : table_number s ≡ 0 = sym hn ∙ h in
      record { is = rw (e, le-ltb (length index) 128 l); index = rw (e, le-ltb (length index) 128 l, x) }

  pub fill_accepted : n ≡ 0 → table_number s ≡ 0
  fill_accepted h = sym hn ∙ h
