-- A table that is written is read. Assumes nothing.
use Rattle.std.specs.Prelude.{Option, Some, None}
use Prim.Native.Nat.{ℕ, zero, suc, ◌+◌, ◌-◌, ◌≤◌}
use native.Mathlib.Omega.{arith}
use mathlib.Core.Path.{◌≡◌, refl, sym, ap, ◌∙◌}
use mathlib.Core.Bool.{true, false}
use mathlib.Core.List.{List, [], ◌∷◌, ◌++◌, append_assoc}
use lib.Dec.{leb}
use lib.ListN.{length, length-append}
use borrow.Author.Tests.{leb-true, eq-eqb}
use Rattle.ascii.specs.Text.{bytes}
use Rattle.ascii.specs.Bytes.{◌>>=◌, all, after}
use Rattle.ascii.proofs.Lists.{both, all_parts}
use Rattle.datainfo.specs.Datainfo.{Datainfo}
use Rattle.datainfo.specs.Rules as Datainfo
use Rattle.datainfo.specs.Layout.{flag, datainfo_at}
use Rattle.form.proofs.Stored.{short_stored}
use Rattle.table.specs.Table.{Parameter, Command, Accessible, parameter, command, Module, Table, with_modules}
use Rattle.table.specs.Layout.{begins, parameter_at, argument_at, command_at, accessibles_at, marked_at, module_at, modules_at, head_at, whole_table}
use Rattle.table.specs.Clauses.At.{accessible_begins, accessible_at}
use Rattle.table.specs.Rules.{if_any, rules_kept, initial_good}
use Rattle.encode.specs.Encode.{unsigned_bytes, flag_byte, text_bytes, datainfo_bytes, before_initial, parameter_bytes, argument_bytes, command_bytes}
use Rattle.encode.specs.Encode.{accessible_bytes, accessibles_bytes, marked_bytes, heading_bytes, module_bytes, modules_bytes, head_bytes, encode}
use Rattle.encode.specs.Encode.{with_place, placed_accessible, placed_accessibles, placed_module, placed_modules, placed}
use Rattle.encode.specs.Fits.{text_fits, numbers_fit, levels, datainfo_fits, accessible_fits}
use Rattle.encode.proofs.Numbers.{part_back, unsigned_back, text_back, flag_back}
use Rattle.encode.proofs.Datainfos.{datainfo_back}

-- ## Marks

after_back : (m xs : List ℕ) → after m (m ++ xs) ≡ Some xs
unfolding after
after_back [] xs = refl
after_back (w ∷ m) xs = rw (eq-eqb w w refl) (after_back m xs)

begins_back : (m xs : List ℕ) → begins m (m ++ xs) ≡ true
unfolding begins
begins_back m xs = rw (after_back m xs)

-- a text after a mark, or none, before bytes that don't begin with the mark
marked_back : (m : List ℕ) (o : Option (List ℕ)) (r : List ℕ) → begins m r ≡ false → marked_at m (marked_bytes m o ++ r) ≡ Some (o, r)
unfolding marked_at marked_bytes
marked_back m None r h = rw h
marked_back m (Some x) r h = rw (append_assoc, begins_back m (text_bytes x ++ r), after_back m (text_bytes x ++ r), text_back x r)

-- ## Parameters and commands, in a table of n bytes

kept_back : (d : Datainfo) (r : List ℕ) → datainfo_fits d ≡ true → Datainfo.rules_kept d ≡ true → datainfo_at (datainfo_bytes d ++ r) ≡ Some (d, r)
unfolding datainfo_fits
kept_back d r f k = let g = both (numbers_fit d) (leb (levels d) 4) f in datainfo_back d 4 r g.0 k (leb-true (levels d) 4 g.1)

-- the records, each in front of r: the mark, and the rest
parameter_rest : Parameter → List ℕ → List ℕ
parameter_rest p r =
    text_bytes p.name ++ (text_bytes p.description ++ (flag_byte p.readonly ∷ (datainfo_bytes p.datainfo
    ++ (unsigned_bytes 2 (length p.initial) ++ (p.initial ++ r)))))

parameter_front : (p : Parameter) (r : List ℕ) → parameter_bytes p ++ r ≡ bytes "PA" ++ parameter_rest p r
unfolding parameter_bytes before_initial parameter_rest
parameter_front p r = simp append_assoc

command_rest : Command → List ℕ → List ℕ
command_rest c r = text_bytes c.name ++ (text_bytes c.description ++ (argument_bytes c.argument ++ r))

command_front : (c : Command) (r : List ℕ) → command_bytes c ++ r ≡ bytes "CM" ++ command_rest c r
unfolding command_bytes command_rest
command_front c r = simp append_assoc

-- where an initial value lies, if the record begins at `at`
lies : (p : Parameter) (r : List ℕ) (n at : ℕ) → at + length (parameter_bytes p ++ r) ≡ n → n - length (p.initial ++ r) ≡ at + length (before_initial p)
unfolding parameter_bytes
lies p r n at e =
    let l : length ((before_initial p ++ p.initial) ++ r) ≡ length (before_initial p) + length (p.initial ++ r) =
    rw append_assoc (length-append (before_initial p) (p.initial ++ r)) in
    omega arith

parameter_back : (n at : ℕ) (p : Parameter) (r : List ℕ) → accessible_fits (parameter p) ≡ true → rules_kept (parameter p) ≡ true
    → initial_good (parameter p) ≡ true → at + length (parameter_bytes p ++ r) ≡ n
    → parameter_at n (parameter_bytes p ++ r) ≡ Some (placed_accessible at (parameter p), r)
unfolding parameter_at parameter_rest placed_accessible accessible_fits rules_kept initial_good
parameter_back n at p r f k i e =
    let g = (both (text_fits p.description) (datainfo_fits p.datainfo) f).1 in
    let s = short_stored p.datainfo p.initial i in
    let v = p.initial ++ r in
    let u = unsigned_bytes 2 (length p.initial) ++ v in
    let d = datainfo_bytes p.datainfo ++ u in
    let b = flag_byte p.readonly ∷ d in
    let size = unsigned_back 2 (length p.initial) v (omega arith) in
    rw (parameter_front p r, after_back (bytes "PA") (parameter_rest p r), text_back p.name (text_bytes p.description ++ b))
    (rw (text_back p.description b, flag_back p.readonly d, kept_back p.datainfo u g k, size)
    (rw (part_back p.initial r (length p.initial) refl)
    (ap (λ (j : ℕ). Some (parameter (with_place p j), r)) (lies p r n at e))))

-- a command whose argument is read
abbrev finish : Command → Option Datainfo × List ℕ → Option (Accessible × List ℕ)
finish c q = Some (command (record { name = c.name; description = c.description; argument = q.0 }), q.1)

command_back : (c : Command) (r : List ℕ) → accessible_fits (command c) ≡ true → rules_kept (command c) ≡ true
    → command_at (command_bytes c ++ r) ≡ Some (command c, r)
unfolding command_at command_rest accessible_fits rules_kept argument_bytes argument_at if_any
command_back c r f k =
    let g = (both (text_fits c.description) (if_any datainfo_fits c.argument) f).1 in
    let o = argument_bytes c.argument ++ r in
    rw (command_front c r, after_back (bytes "CM") (command_rest c r), text_back c.name (text_bytes c.description ++ o), text_back c.description o)
    (go c.argument g k)
  where
    go : (o : Option Datainfo) → if_any datainfo_fits o ≡ true → if_any Datainfo.rules_kept o ≡ true
        → (flag (argument_bytes o ++ r) >>= λ p. argument_at p.0 p.1 >>= finish c) ≡ finish c (o, r)
    go None f k = rw (flag_back false r)
    go (Some d) f k = rw (flag_back true (datainfo_bytes d ++ r), kept_back d r f k)

-- ## What may follow the records of a module

record Ends (xs : List ℕ) : Type 0 where
  parameters : begins (bytes "PA") xs ≡ false
  commands : begins (bytes "CM") xs ≡ false
  notes : begins (bytes "NO") xs ≡ false
  editions : begins (bytes "ED") xs ≡ false

-- another module, or the end
module_ends : (y : List ℕ) → Ends (bytes "MO" ++ y)
unfolding begins after bytes
module_ends y = record { parameters = refl; commands = refl; notes = refl; editions = refl }

table_ends : Ends (bytes "EN")
unfolding begins after bytes
table_ends = record { parameters = refl; commands = refl; notes = refl; editions = refl }

-- no command begins as a parameter, and none of the two as a note
command_other : (y : List ℕ) → begins (bytes "PA") (bytes "CM" ++ y) ≡ false
unfolding begins after bytes
command_other y = refl

parameter_no_note : (y : List ℕ) → begins (bytes "NO") (bytes "PA" ++ y) ≡ false
unfolding begins after bytes
parameter_no_note y = refl

command_no_note : (y : List ℕ) → begins (bytes "NO") (bytes "CM" ++ y) ≡ false
unfolding begins after bytes
command_no_note y = refl

-- ## The accessibles of a module

-- a record takes a byte: x is its bytes, and y those of the k records after it
counted_bytes : (k : ℕ) (x y r : List ℕ) → 1 ≤ length x → k ≤ length (y ++ r) → suc k ≤ length ((x ++ y) ++ r)
counted_bytes k x y r h l = let e = length-append x (y ++ r) in rw append_assoc (omega arith)

parameter_long : (p : Parameter) → 1 ≤ length (parameter_bytes p)
unfolding parameter_bytes before_initial bytes
parameter_long p = omega arith

command_long : (c : Command) → 1 ≤ length (command_bytes c)
unfolding command_bytes bytes
command_long c = omega arith

longer : (l : List Accessible) (r : List ℕ) → length l ≤ length (accessibles_bytes l ++ r)
unfolding accessibles_bytes accessible_bytes
longer [] r = omega arith
longer (parameter p ∷ l) r = counted_bytes (length l) (parameter_bytes p) (accessibles_bytes l) r (parameter_long p) (longer l r)
longer (command c ∷ l) r = counted_bytes (length l) (command_bytes c) (accessibles_bytes l) r (command_long c) (longer l r)

module _ (n : ℕ) where
  accessible_next : (k : ℕ) (xs ys r : List ℕ) (a : Accessible) (l : List Accessible) → accessible_begins xs ≡ true
      → accessible_at n xs ≡ Some (a, ys) → accessibles_at n k ys ≡ Some (l, r)
      → accessibles_at n (suc k) xs ≡ Some (a ∷ l, r)
  unfolding accessibles_at accessible_at
  accessible_next k xs ys r a l h e g = rw (h, e, g)

  accessible_none : (k : ℕ) (r : List ℕ) → Ends r → accessibles_at n k r ≡ Some ([], r)
  unfolding accessibles_at
  accessible_none zero r h = refl
  accessible_none (suc k) r h = rw (h.parameters, h.commands)

  parameter_reads : (at : ℕ) (p : Parameter) (r : List ℕ) → accessible_fits (parameter p) ≡ true → rules_kept (parameter p) ≡ true
      → initial_good (parameter p) ≡ true → at + length (parameter_bytes p ++ r) ≡ n
      → accessible_at n (parameter_bytes p ++ r) ≡ Some (placed_accessible at (parameter p), r)
  unfolding accessible_at
  parameter_reads at p r f k i e =
      rw (ap (begins (bytes "PA")) (parameter_front p r) ∙ begins_back (bytes "PA") (parameter_rest p r)) (parameter_back n at p r f k i e)

  command_reads : (at : ℕ) (c : Command) (r : List ℕ) → accessible_fits (command c) ≡ true → rules_kept (command c) ≡ true
      → accessible_at n (command_bytes c ++ r) ≡ Some (placed_accessible at (command c), r)
  unfolding accessible_at placed_accessible
  command_reads at c r f k =
      rw (ap (begins (bytes "PA")) (command_front c r) ∙ command_other (command_rest c r)) (command_back c r f k)

  parameter_begins : (p : Parameter) (r : List ℕ) → accessible_begins (parameter_bytes p ++ r) ≡ true
  parameter_begins p r = rw (ap (begins (bytes "PA")) (parameter_front p r) ∙ begins_back (bytes "PA") (parameter_rest p r))

  command_begins : (c : Command) (r : List ℕ) → accessible_begins (command_bytes c ++ r) ≡ true
  command_begins c r =
      rw (ap (begins (bytes "PA")) (command_front c r) ∙ command_other (command_rest c r))
      (ap (begins (bytes "CM")) (command_front c r) ∙ begins_back (bytes "CM") (command_rest c r))

  accessibles_back : (l : List Accessible) (k at : ℕ) (r : List ℕ) → length l ≤ k → all accessible_fits l ≡ true → all rules_kept l ≡ true
      → all initial_good l ≡ true → Ends r → at + length (accessibles_bytes l ++ r) ≡ n
      → accessibles_at n k (accessibles_bytes l ++ r) ≡ Some (placed_accessibles at l, r)
  unfolding accessibles_bytes accessible_bytes placed_accessibles
  accessibles_back [] k at r h f g i o e = accessible_none k r o
  accessibles_back (a ∷ l) zero at r h f g i o e = absurd (omega arith)
  accessibles_back (parameter p ∷ l) (suc k) at r h f g i o e =
      let f2 = all_parts accessible_fits (parameter p) l f in
      let g2 = all_parts rules_kept (parameter p) l g in
      let i2 = all_parts initial_good (parameter p) l i in
      let y = accessibles_bytes l ++ r in
      let s : (parameter_bytes p ++ accessibles_bytes l) ++ r ≡ parameter_bytes p ++ y = append_assoc (parameter_bytes p) (accessibles_bytes l) r in
      let e2 : at + length (parameter_bytes p ++ y) ≡ n = rw s at e in
      let c : length (parameter_bytes p ++ y) ≡ length (parameter_bytes p) + length y = length-append (parameter_bytes p) y in
      let e3 : at + length (parameter_bytes p) + length y ≡ n = omega arith in
      ap (accessibles_at n (suc k)) s
      ∙ accessible_next k (parameter_bytes p ++ y) y r (placed_accessible at (parameter p)) (placed_accessibles (at + length (parameter_bytes p)) l)
      (parameter_begins p y) (parameter_reads at p y f2.0 g2.0 i2.0 e2)
      (accessibles_back l k (at + length (parameter_bytes p)) r (omega arith) f2.1 g2.1 i2.1 o e3)
  accessibles_back (command p ∷ l) (suc k) at r h f g i o e =
      let f2 = all_parts accessible_fits (command p) l f in
      let g2 = all_parts rules_kept (command p) l g in
      let i2 = all_parts initial_good (command p) l i in
      let y = accessibles_bytes l ++ r in
      let s : (command_bytes p ++ accessibles_bytes l) ++ r ≡ command_bytes p ++ y = append_assoc (command_bytes p) (accessibles_bytes l) r in
      let e2 : at + length (command_bytes p ++ y) ≡ n = rw s at e in
      let c : length (command_bytes p ++ y) ≡ length (command_bytes p) + length y = length-append (command_bytes p) y in
      let e3 : at + length (command_bytes p) + length y ≡ n = omega arith in
      ap (accessibles_at n (suc k)) s
      ∙ accessible_next k (command_bytes p ++ y) y r (placed_accessible at (command p)) (placed_accessibles (at + length (command_bytes p)) l)
      (command_begins p y) (command_reads at p y f2.0 g2.0)
      (accessibles_back l k (at + length (command_bytes p)) r (omega arith) f2.1 g2.1 i2.1 o e3)

-- ## Modules

-- a note, or none, is followed by no note
note_ends : (l : List Accessible) (r : List ℕ) → Ends r → begins (bytes "NO") (accessibles_bytes l ++ r) ≡ false
unfolding accessibles_bytes accessible_bytes
note_ends [] r o = o.notes
note_ends (parameter p ∷ l) r o =
    ap (begins (bytes "NO")) (append_assoc (parameter_bytes p) (accessibles_bytes l) r ∙ parameter_front p (accessibles_bytes l ++ r))
    ∙ parameter_no_note (parameter_rest p (accessibles_bytes l ++ r))
note_ends (command c ∷ l) r o =
    ap (begins (bytes "NO")) (append_assoc (command_bytes c) (accessibles_bytes l) r ∙ command_front c (accessibles_bytes l ++ r))
    ∙ command_no_note (command_rest c (accessibles_bytes l ++ r))

module_rest : Module → List ℕ → List ℕ
module_rest m y = text_bytes m.name ++ (text_bytes m.description ++ (marked_bytes (bytes "NO") m.note ++ y))

heading_front : (m : Module) (y : List ℕ) → heading_bytes m ++ y ≡ bytes "MO" ++ module_rest m y
unfolding heading_bytes module_rest
heading_front m y = simp append_assoc

module_front : (m : Module) (r : List ℕ) → module_bytes m ++ r ≡ bytes "MO" ++ module_rest m (accessibles_bytes m.accessibles ++ r)
unfolding module_bytes
module_front m r = append_assoc (heading_bytes m) (accessibles_bytes m.accessibles) r ∙ heading_front m (accessibles_bytes m.accessibles ++ r)

heading_size : (m : Module) (r : List ℕ) → length (module_bytes m ++ r) ≡ length (heading_bytes m) + length (accessibles_bytes m.accessibles ++ r)
unfolding module_bytes
heading_size m r = rw (append_assoc, length-append (heading_bytes m) (accessibles_bytes m.accessibles ++ r))

end_no_module : begins (bytes "MO") (bytes "EN") ≡ false
unfolding begins after bytes
end_no_module = refl

modules_end : (ms : List Module) → Ends (modules_bytes ms ++ bytes "EN")
unfolding modules_bytes
modules_end [] = table_ends
modules_end (m ∷ ms) =
    let y = modules_bytes ms ++ bytes "EN" in
    rw (append_assoc (module_bytes m) (modules_bytes ms) (bytes "EN"), module_front m y) (module_ends (module_rest m (accessibles_bytes m.accessibles ++ y)))

module_long : (m : Module) → 1 ≤ length (module_bytes m)
unfolding module_bytes heading_bytes bytes
module_long m = omega arith

modules_longer : (ms : List Module) → length ms ≤ length (modules_bytes ms ++ bytes "EN")
unfolding modules_bytes
modules_longer [] = omega arith
modules_longer (m ∷ ms) = counted_bytes (length ms) (module_bytes m) (modules_bytes ms) (bytes "EN") (module_long m) (modules_longer ms)

-- all accessibles of a module are good
pub record Good (m : Module) : Type 0 where
  pub fits : all accessible_fits m.accessibles ≡ true
  pub kept : all rules_kept m.accessibles ≡ true
  pub initials : all initial_good m.accessibles ≡ true

pub data AllGood : List Module → Type 0 where
  no_modules : AllGood []
  more : {m : Module} {ms : List Module} → Good m → AllGood ms → AllGood (m ∷ ms)

module _ (n : ℕ) where
  module_back : (m : Module) (at : ℕ) (r : List ℕ) → Good m → Ends r → at + length (module_bytes m ++ r) ≡ n
      → module_at n (module_bytes m ++ r) ≡ Some (placed_module at m, r)
  unfolding module_at module_rest placed_module
  module_back m at r g o e =
      let l = m.accessibles in
      let y = accessibles_bytes l ++ r in
      let size : length (module_bytes m ++ r) ≡ length (heading_bytes m) + length y = heading_size m r in
      let inner = accessibles_back n l (length y) (at + length (heading_bytes m)) r (longer l r) g.fits g.kept g.initials o (omega arith) in
      let a = marked_bytes (bytes "NO") m.note ++ y in
      rw (module_front m r, after_back (bytes "MO") (module_rest m y), text_back m.name (text_bytes m.description ++ a), text_back m.description a)
      (rw (marked_back (bytes "NO") m.note y (note_ends l r o), inner))

  modules_next : (k : ℕ) (xs ys r : List ℕ) (m : Module) (ms : List Module) → begins (bytes "MO") xs ≡ true → module_at n xs ≡ Some (m, ys)
      → modules_at n k ys ≡ Some (ms, r) → modules_at n (suc k) xs ≡ Some (m ∷ ms, r)
  unfolding modules_at
  modules_next k xs ys r m ms h e g = rw (h, e, g)

  modules_none : (k : ℕ) → modules_at n k (bytes "EN") ≡ Some ([], bytes "EN")
  unfolding modules_at
  modules_none zero = refl
  modules_none (suc k) = rw end_no_module

  modules_back : (ms : List Module) (k at : ℕ) → length ms ≤ k → AllGood ms → at + length (modules_bytes ms ++ bytes "EN") ≡ n
      → modules_at n k (modules_bytes ms ++ bytes "EN") ≡ Some (placed_modules at ms, bytes "EN")
  unfolding modules_bytes placed_modules
  modules_back [] k at h g e = modules_none k
  modules_back (m ∷ ms) zero at h g e = absurd (omega arith)
  modules_back (m ∷ ms) (suc k) at h (more gm g) e =
      let y = modules_bytes ms ++ bytes "EN" in
      let s : (module_bytes m ++ modules_bytes ms) ++ bytes "EN" ≡ module_bytes m ++ y = append_assoc (module_bytes m) (modules_bytes ms) (bytes "EN") in
      let e2 : at + length (module_bytes m ++ y) ≡ n = rw s at e in
      let c : length (module_bytes m ++ y) ≡ length (module_bytes m) + length y = length-append (module_bytes m) y in
      let e3 : at + length (module_bytes m) + length y ≡ n = omega arith in
      ap (modules_at n (suc k)) s
      ∙ modules_next k (module_bytes m ++ y) y (bytes "EN") (placed_module at m) (placed_modules (at + length (module_bytes m)) ms)
      (ap (begins (bytes "MO")) (module_front m y) ∙ begins_back (bytes "MO") (module_rest m (accessibles_bytes m.accessibles ++ y)))
      (module_back m at y gm (modules_end ms) e2)
      (modules_back ms k (at + length (module_bytes m)) (omega arith) g e3)

-- ## The whole table

head_rest : Table → List ℕ → List ℕ
head_rest t y = text_bytes t.equipment_id ++ (text_bytes t.description ++ (marked_bytes (bytes "ED") t.edition ++ y))

head_front : (t : Table) (y : List ℕ) → head_bytes t ++ y ≡ bytes "ND" ++ head_rest t y
unfolding head_bytes head_rest
head_front t y = simp append_assoc

head_back : (t : Table) (y : List ℕ) → Ends y → head_at (head_bytes t ++ y) ≡ Some (with_modules t [], y)
unfolding head_at head_rest
head_back t y o =
    let a = marked_bytes (bytes "ED") t.edition ++ y in
    rw (head_front t y, after_back (bytes "ND") (head_rest t y), text_back t.equipment_id (text_bytes t.description ++ a), text_back t.description a)
    (rw (marked_back (bytes "ED") t.edition y o.editions))

end_back : after (bytes "EN") (bytes "EN") ≡ Some []
unfolding after bytes
end_back = refl

pub table_back : (t : Table) → AllGood t.modules → whole_table (encode t) ≡ Some (placed t)
unfolding whole_table encode placed
table_back t g =
    let ms = t.modules in
    let y = modules_bytes ms ++ bytes "EN" in
    let s : (head_bytes t ++ modules_bytes ms) ++ bytes "EN" ≡ head_bytes t ++ y = append_assoc (head_bytes t) (modules_bytes ms) (bytes "EN") in
    let n = length (head_bytes t ++ y) in
    let e : length (head_bytes t) + length y ≡ n = sym (length-append (head_bytes t) y) in
    rw (s, head_back t y (modules_end ms), modules_back n ms (length y) (length (head_bytes t)) (modules_longer ms) g e, end_back)
