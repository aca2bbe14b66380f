-- A table that is read was written so: the bytes that it is read from are its encoding. Assumes nothing.
use Rattle.std.specs.Prelude.{Option, Some, None}
use Prim.Native.Nat.{ℕ, zero, suc}
use native.Mathlib.Omega.{arith}
use mathlib.Core.Path.{◌≡◌, refl, ap₂}
use mathlib.Core.Bool.{Bool, true, false, cond, ◌&&◌, ◌||◌}
use mathlib.Core.List.{List, [], ◌∷◌, append-nil, map}
use lib.Dec.{eqb}
use lib.ListN.{length}
use lib.Pow.{are_bytes}
use borrow.Author.Tests.{le-leb, eqb-true}
use Rattle.ascii.specs.Text.{bytes}
use Rattle.ascii.specs.Bytes.{all, after, part}
use Rattle.ascii.specs.Names.{is_text}
use Rattle.ascii.specs.Numbers.{unsigned}
use Rattle.ascii.proofs.Lists.{both}
use Rattle.datainfo.specs.Datainfo.{Datainfo}
use Rattle.datainfo.specs.Rules as Datainfo
use Rattle.datainfo.specs.Rules.{good_names}
use Rattle.datainfo.specs.Layout.{counted, flag, datainfo_at}
use Rattle.fit.proofs.Shapes.{nothing, just, either, steps}
use Rattle.table.specs.Table.{Accessible, Module, Table}
use Rattle.table.specs.Layout.{begins, parameter_at, argument_at, command_at, accessibles_at, marked_at, module_at, modules_at, head_at, whole_table}
use Rattle.table.specs.Rules.{accessible_name, if_any, note_good, accessible_names_good, module_names_good}
use Rattle.encode.specs.Encode.{unsigned_bytes, flag_byte, datainfo_bytes, before_initial, parameter_bytes, argument_bytes, command_bytes, accessible_bytes}
use Rattle.encode.specs.Encode.{accessibles_bytes, marked_bytes, heading_bytes, module_bytes, modules_bytes, head_bytes, encode}
use Rattle.encode.specs.Fits.{option_fits, levels, datainfo_fits, accessible_fits, module_fits, head_fits}
use Rattle.encode.proofs.Numbers.{Front, Got, chain, along, bytes_parts, part_from, unsigned_from, text_from, flag_from}
use Rattle.encode.proofs.Read.{parts, nothing_read, datainfo_from}

-- one way or the other
branch : {A S : Type 0} (b : Bool) (x z : Option A) {r : A} → cond b x z ≡ Some r → (x ≡ Some r → S) → (z ≡ Some r → S) → S
branch true x z e f g = f e
branch false x z e f g = g e

-- what is left of bytes is bytes
rest_bytes : {xs a r : List ℕ} → Front xs a r → are_bytes xs ≡ true → are_bytes r ≡ true
rest_bytes {a = a} {r = r} e h = (bytes_parts a r (rw e.whole at h)).1

-- ## Marks

after_from : (m xs r : List ℕ) → after m xs ≡ Some r → Front xs m r
unfolding after
after_from [] xs r e = record { whole = just e }
after_from (w ∷ m) [] r e = absurd (nothing e)
after_from (w ∷ m) (x ∷ xs) r e =
    either x w _ _ e (λ q g. record { whole = ap₂ (λ (b : ℕ) (u : List ℕ). b ∷ u) q (after_from m xs r g).whole }) (λ q g. absurd (nothing g))

marked_from : (m : List ℕ) (o : Option (List ℕ)) (xs r : List ℕ) → are_bytes xs ≡ true → marked_at m xs ≡ Some (o, r)
    → Got (marked_bytes m o) (option_fits o) xs r
unfolding marked_at marked_bytes option_fits
marked_from m o xs r h e =
    branch (begins m xs) _ _ e
    (λ e1. steps (after m xs) _ e1
    (λ y i j. let a = after_from m xs y i in
    steps (counted y) _ j
    (λ p q g. let b = text_from p.0 y p.1 (rest_bytes a h) q in
    let z = parts g in
    rw (← z.0, ← z.1) (record { is = chain a b.is; fits = b.fits; left = b.left }))))
    (λ e2. let z = parts e2 in rw (← z.0, ← z.1) (nothing_read h))

-- ## Parameters and commands

kept_from : (d : Datainfo) (xs r : List ℕ) → are_bytes xs ≡ true → datainfo_at xs ≡ Some (d, r) → Datainfo.names_good d ≡ true
    → Got (datainfo_bytes d) (datainfo_fits d) xs r
unfolding datainfo_fits
kept_from d xs r h e m =
    let c = datainfo_from 4 d xs r h e m in
    record { is = c.got.is; fits = ap₂ ◌&&◌ c.got.fits (le-leb (levels d) 4 c.deep); left = c.got.left }

parameter_from : (n : ℕ) (a : Accessible) (xs r : List ℕ) → are_bytes xs ≡ true → parameter_at n xs ≡ Some (a, r) → accessible_names_good a ≡ true
    → Got (accessible_bytes a) (accessible_fits a) xs r
unfolding parameter_at accessible_bytes parameter_bytes before_initial accessible_fits accessible_names_good
parameter_from n a xs r h e m =
    steps (after (bytes "PA") xs) _ e
    (λ y i j. let w = after_from (bytes "PA") xs y i in
    steps (counted y) _ j
    (λ k i1 j1. let k2 = text_from k.0 y k.1 (rest_bytes w h) i1 in
    steps (counted k.1) _ j1
    (λ t i2 j2. let t2 = text_from t.0 k.1 t.1 k2.left i2 in
    steps (flag t.1) _ j2
    (λ b i3 j3. let b2 = flag_from b.0 t.1 b.1 t2.left i3 in
    steps (datainfo_at b.1) _ j3
    (λ d i4 j4. steps (unsigned 2 d.1) _ j4
    (λ s i5 j5. steps (part s.0 s.1) _ j5
    (λ v i6 j6. let z = parts j6 in
    let good = both (is_text t.0) (Datainfo.names_good d.0) (rw (← z.0) at m) in
    let d2 = kept_from d.0 b.1 d.1 b2.left i4 good.1 in
    let s2 = unsigned_from 2 s.0 d.1 s.1 d2.left i5 in
    let v2 = part_from s.0 s.1 v.0 v.1 i6 in
    let size : Front d.1 (unsigned_bytes 2 (length v.0)) s.1 = rw v2.1 s2.is in
    let value : Front s.1 v.0 v.1 = record { whole = v2.0 } in
    rw (← z.0, ← z.1)
    (record {
      is = chain (chain (chain (chain (chain (chain w k2.is) t2.is) b2.is) d2.is) size) value;
      fits = ap₂ ◌&&◌ t2.fits d2.fits;
      left = rest_bytes value s2.left;
    }))))))))

argument_from_lem : (b : Bool) (o : Option Datainfo) (xs y r : List ℕ) → Front xs (flag_byte b ∷ []) y → are_bytes y ≡ true → argument_at b y ≡ Some (o, r)
    → if_any Datainfo.names_good o ≡ true → Got (argument_bytes o) (if_any datainfo_fits o) xs r
unfolding argument_at argument_bytes if_any
argument_from_lem false o xs y r f h e m = let z = parts e in rw (← z.0, ← z.1) (record { is = f; fits = refl; left = h })
argument_from_lem true o xs y r f h e m =
    steps (datainfo_at y) _ e
    (λ d q g. let z = parts g in
    let t = kept_from d.0 y d.1 h q (rw (← z.0) at m) in
    rw (← z.0, ← z.1) (record { is = chain f t.is; fits = t.fits; left = t.left }))

command_from : (a : Accessible) (xs r : List ℕ) → are_bytes xs ≡ true → command_at xs ≡ Some (a, r) → accessible_names_good a ≡ true
    → Got (accessible_bytes a) (accessible_fits a) xs r
unfolding command_at accessible_bytes command_bytes accessible_fits accessible_names_good
command_from a xs r h e m =
    steps (after (bytes "CM") xs) _ e
    (λ y i j. let w = after_from (bytes "CM") xs y i in
    steps (counted y) _ j
    (λ k i1 j1. let k2 = text_from k.0 y k.1 (rest_bytes w h) i1 in
    steps (counted k.1) _ j1
    (λ t i2 j2. let t2 = text_from t.0 k.1 t.1 k2.left i2 in
    steps (flag t.1) _ j2
    (λ b i3 j3. let b2 = flag_from b.0 t.1 b.1 t2.left i3 in
    steps (argument_at b.0 b.1) _ j3
    (λ o i4 j4. let z = parts j4 in
    let good = both (is_text t.0) (if_any Datainfo.names_good o.0) (rw (← z.0) at m) in
    let o2 = argument_from_lem b.0 o.0 t.1 b.1 o.1 b2.is b2.left i4 good.1 in
    rw (← z.0, ← z.1)
    (record { is = chain (chain (chain w k2.is) t2.is) o2.is; fits = ap₂ ◌&&◌ t2.fits o2.fits; left = o2.left }))))))

-- ## Accessibles, modules

accessibles_from_lem : (n k : ℕ) (l : List Accessible) (xs r : List ℕ) → are_bytes xs ≡ true → accessibles_at n k xs ≡ Some (l, r)
    → all accessible_names_good l ≡ true → Got (accessibles_bytes l) (all accessible_fits l) xs r
unfolding accessibles_at accessibles_bytes all
accessibles_from_lem n zero l xs r h e m = let z = parts e in rw (← z.0, ← z.1) (nothing_read h)
accessibles_from_lem n (suc k) l xs r h e m =
    branch (begins (bytes "PA") xs || begins (bytes "CM") xs) _ _ e
    (λ e1. steps (cond (begins (bytes "PA") xs) (parameter_at n xs) (command_at xs)) _ e1
    (λ p q f. steps (accessibles_at n k p.1) _ f
    (λ u v g. let z = parts g in
    let good = both (accessible_names_good p.0) (all accessible_names_good u.0) (rw (← z.0) at m) in
    let s : Got (accessible_bytes p.0) (accessible_fits p.0) xs p.1 = branch (begins (bytes "PA") xs) (parameter_at n xs) (command_at xs) q
    (λ i. parameter_from n p.0 xs p.1 h i good.0) (λ i. command_from p.0 xs p.1 h i good.0) in
    let t = accessibles_from_lem n k u.0 p.1 u.1 s.left v good.1 in
    rw (← z.0, ← z.1) (along s t))))
    (λ e2. let z = parts e2 in rw (← z.0, ← z.1) (nothing_read h))

module_from : (n : ℕ) (m : Module) (xs r : List ℕ) → are_bytes xs ≡ true → module_at n xs ≡ Some (m, r) → module_names_good m ≡ true
    → Got (module_bytes m) (module_fits m) xs r
unfolding module_at module_bytes heading_bytes module_fits module_names_good
module_from n m xs r h e g =
    steps (after (bytes "MO") xs) _ e
    (λ y i j. let w = after_from (bytes "MO") xs y i in
    steps (counted y) _ j
    (λ k i1 j1. let k2 = text_from k.0 y k.1 (rest_bytes w h) i1 in
    steps (counted k.1) _ j1
    (λ t i2 j2. let t2 = text_from t.0 k.1 t.1 k2.left i2 in
    steps (marked_at (bytes "NO") t.1) _ j2
    (λ o i3 j3. let o2 = marked_from (bytes "NO") o.0 t.1 o.1 t2.left i3 in
    steps (accessibles_at n (length o.1) o.1) _ j3
    (λ l i4 j4. let z = parts j4 in
    let good = both (is_text t.0 && note_good o.0 && good_names (map accessible_name l.0)) (all accessible_names_good l.0) (rw (← z.0) at g) in
    let l2 = accessibles_from_lem n (length o.1) l.0 o.1 l.1 o2.left i4 good.1 in
    rw (← z.0, ← z.1)
    (record {
      is = chain (chain (chain (chain w k2.is) t2.is) o2.is) l2.is;
      fits = ap₂ ◌&&◌ (ap₂ ◌&&◌ t2.fits o2.fits) l2.fits;
      left = l2.left;
    }))))))

modules_from_lem : (n k : ℕ) (ms : List Module) (xs r : List ℕ) → are_bytes xs ≡ true → modules_at n k xs ≡ Some (ms, r) → all module_names_good ms ≡ true
    → Got (modules_bytes ms) (all module_fits ms) xs r
unfolding modules_at modules_bytes all
modules_from_lem n zero ms xs r h e m = let z = parts e in rw (← z.0, ← z.1) (nothing_read h)
modules_from_lem n (suc k) ms xs r h e m =
    branch (begins (bytes "MO") xs) _ _ e
    (λ e1. steps (module_at n xs) _ e1
    (λ p q f. steps (modules_at n k p.1) _ f
    (λ u v g. let z = parts g in
    let good = both (module_names_good p.0) (all module_names_good u.0) (rw (← z.0) at m) in
    let s = module_from n p.0 xs p.1 h q good.0 in
    let t = modules_from_lem n k u.0 p.1 u.1 s.left v good.1 in
    rw (← z.0, ← z.1) (along s t))))
    (λ e2. let z = parts e2 in rw (← z.0, ← z.1) (nothing_read h))

-- ## The whole table

head_from : (t : Table) (xs r : List ℕ) → are_bytes xs ≡ true → head_at xs ≡ Some (t, r) → Got (head_bytes t) (head_fits t) xs r
unfolding head_at head_bytes head_fits
head_from t xs r h e =
    steps (after (bytes "ND") xs) _ e
    (λ y i j. let w = after_from (bytes "ND") xs y i in
    steps (counted y) _ j
    (λ k i1 j1. let k2 = text_from k.0 y k.1 (rest_bytes w h) i1 in
    steps (counted k.1) _ j1
    (λ d i2 j2. let d2 = text_from d.0 k.1 d.1 k2.left i2 in
    steps (marked_at (bytes "ED") d.1) _ j2
    (λ o i3 j3. let o2 = marked_from (bytes "ED") o.0 d.1 o.1 d2.left i3 in
    let z = parts j3 in
    rw (← z.0, ← z.1)
    (record { is = chain (chain (chain w k2.is) d2.is) o2.is; fits = ap₂ ◌&&◌ (ap₂ ◌&&◌ k2.fits d2.fits) o2.fits; left = o2.left })))))

pub record CameTable (t : Table) (xs : List ℕ) : Type 0 where
  pub is : xs ≡ encode t
  pub head : head_fits t ≡ true
  pub modules : all module_fits t.modules ≡ true

no_bytes : (xs : List ℕ) → eqb (length xs) 0 ≡ true → xs ≡ []
no_bytes [] h = refl
no_bytes (x ∷ xs) h = let z = eqb-true (length (x ∷ xs)) 0 h in absurd (omega arith)

-- the end, and nothing after it
ended : (t : Table) (c : List ℕ) {u : Table} → cond (eqb (length c) 0) (Some u) None ≡ Some t → (c ≡ []) × (u ≡ t)
ended t c {u} e = go (eqb (length c) 0) refl e
  where
    go : (b : Bool) → eqb (length c) 0 ≡ b → cond b (Some u) None ≡ Some t → (c ≡ []) × (u ≡ t)
    go true q e = (no_bytes c q, just e)
    go false q e = absurd (nothing e)

pub table_from : (t : Table) (xs : List ℕ) → are_bytes xs ≡ true → whole_table xs ≡ Some t → all module_names_good t.modules ≡ true → CameTable t xs
unfolding whole_table encode head_bytes head_fits
table_from t xs h e g =
    steps (head_at xs) _ e
    (λ a i j. let a2 = head_from a.0 xs a.1 h i in
    steps (modules_at (length xs) (length a.1) a.1) _ j
    (λ b i1 j1. steps (after (bytes "EN") b.1) _ j1
    (λ c i2 j2. let z = ended t c j2 in
    let w = after_from (bytes "EN") b.1 c i2 in
    let b2 = modules_from_lem (length xs) (length a.1) b.0 a.1 b.1 a2.left i1 (rw (← z.1) at g) in
    let all_of_it = chain (chain a2.is b2.is) w in
    let none_left = rw (z.0, append-nil) at all_of_it.whole in
    rw (← z.1) (record { is = none_left; head = a2.fits; modules = b2.fits }))))
