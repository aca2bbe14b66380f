-- Laws for callers: what no client that is unfit means, and that a change of one client keeps it so. Assumes nothing.
use Prim.Native.Nat.{ℕ, zero, suc, ◌≤◌, ◌<◌}
use native.Mathlib.Omega.{arith}
use mathlib.Core.Path.{◌≡◌, refl, sym, ap, ◌∙◌}
use mathlib.Core.Bool.{Bool, true, false}
use mathlib.Core.List.{List, [], ◌∷◌}
use lib.Dec.{eqb, ltb}
use lib.ListN.{length, get_or, get_or-eq_default}
use borrow.Author.Tests.{ltb-true, ltb-false, eqb-true}
use Rattle.ascii.specs.Bytes.{any}
use Rattle.plain.specs.Node.{Client, client_numbers}
use Rattle.state.specs.declared.Clients.{Clients}
use Rattle.state.specs.Fit.{client_unfit}
use Rattle.state.proofs.Becomes.{Becomes, Sized, LinesFit}
use Rattle.ascii.proofs.Lists.{neither}
use Rattle.state.proofs.Flags.{nor}
use Rattle.state.proofs.Cells.{fit_at}
use Rattle.state.proofs.Judged.{number_at}

any_at : (p : ℕ → Bool) (xs : List ℕ) → any p xs ≡ false → (i : ℕ) → i < length xs → p (get_or xs i 0) ≡ false
unfolding any
any_at p [] h i l = absurd (omega arith)
any_at p (x ∷ xs) h zero l = (neither (p x) (any p xs) h).0
any_at p (x ∷ xs) h (suc i) l = any_at p xs (neither (p x) (any p xs) h).1 i (omega arith)

none_at : (p : ℕ → Bool) (xs : List ℕ) → ((i : ℕ) → i < length xs → p (get_or xs i 0) ≡ false) → any p xs ≡ false
unfolding any
none_at p [] h = refl
none_at p (x ∷ xs) h = nor (h 0 (omega arith)) (none_at p xs (λ i l. h (suc i) (omega arith)))

module _ (m : ℕ) (s : Clients) where
  -- no client is unfit: each, and back
  pub each_fit : any (client_unfit m s) client_numbers ≡ false → (c : ℕ) → c < 8 → client_unfit m s c ≡ false
  each_fit h c l = ap (client_unfit m s) (sym (number_at c l)) ∙ any_at (client_unfit m s) client_numbers h c l

  pub all_fit : ((c : ℕ) → c < 8 → client_unfit m s c ≡ false) → any (client_unfit m s) client_numbers ≡ false
  all_fit h = none_at (client_unfit m s) client_numbers (λ c l. ap (client_unfit m s) (number_at c l) ∙ h c l)

  -- no line is over 1,024 bytes
  pub fit_lines : Sized s → any (client_unfit m s) client_numbers ≡ false → LinesFit s
  fit_lines z h d = go (ltb d 8) (ltb-true d 8) (ltb-false d 8)
    where
      go : (t : Bool) → (t ≡ true → d < 8) → (t ≡ false → 8 ≤ d) → get_or s.length d 0 ≤ 1024
      go true p q = ltb-false 1024 (get_or s.length d 0) (fit_at m s d (each_fit h d (p refl))).short
      go false p q = rw (get_or-eq_default s.length 0 {n = d} (rw z.size (q refl))) (omega arith)

-- a change of one client under its condition
pub still_fit : (m : ℕ) {s r : Clients} {c : ℕ} {x : Client} {condition : ℕ → Type 0} → Becomes s c x condition r → condition m → any (client_unfit m s) client_numbers ≡ false → any (client_unfit m r) client_numbers ≡ false
still_fit m {s} {r} {c} b k h = all_fit m r (λ d l. go d l (eqb d c) (eqb-true d c) refl)
  where
    go : (d : ℕ) → d < 8 → (t : Bool) → (t ≡ true → d ≡ c) → eqb d c ≡ t → client_unfit m r d ≡ false
    go d l true p e =
        let q = p refl in
        ap (client_unfit m r) q ∙ b.own m (each_fit m s h c (omega arith)) k
    go d l false p e = b.others m d e ∙ each_fit m s h d l
