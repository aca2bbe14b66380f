-- What is counted, and the plain node that a state stands for (M-108). Assumes nothing.
use Prim.Native.Nat.{ℕ, zero, suc, ◌+◌, ◌≤◌, ◌<◌}
use native.Mathlib.Nat.{add-zero, zero-add}
use native.Mathlib.Omega.{arith}
use borrow.Author.Tests.{eqb-true, eqb-false, ltb-true, ltb-false, lt-ltb, le-ltb}
use mathlib.Core.Bool.{Bool, true, false, cond}
use mathlib.Core.List.{List}
use mathlib.Core.Path.{◌≡◌, refl, sym, ap, ap₂, ◌∙◌, fun_ext}
use lib.Dec.{eqb, ltb}
use lib.ListN.{length, get_or, set, length-set}
use lib.Seq.{get_or-set_same, get_or-set_other}
use Rattle.counter.specs.declared.Counts.{Counts}
use Rattle.counter.specs.Counts.{no_counts, lines_counted, all_counted}
use Rattle.outbox.specs.Outbox.{Record}
use Rattle.outbox.specs.Sent.{errors_sent, updates_sent}
use Rattle.outbox.specs.Clauses.Tallied.{Holds}
use Rattle.plain.specs.Node.{put, with_count, with_counts, counting}
use Rattle.plain.proofs.Counts.{counted_twice, line_counted_lem, NoneTo}
use Rattle.state.specs.declared.Bare.{Bare}
use Rattle.state.specs.declared.State.{State}
use Rattle.state.specs.View.{counts_at, view, next_counts}
use Rattle.state.specs.Fit.{is_unfit}
use Rattle.table.specs.Table.{Table}
use Rattle.state.specs.Clauses.Bare.{lined}
use Rattle.state.specs.Clauses.Counted.{counts_cleared, line_counted, with_sent, sent_counted, SentCounted}

sent_length : (xs : List Counts) (rs : List Record) (k : ℕ) → length (sent_counted xs rs k) ≡ length xs
unfolding sent_counted
sent_length xs rs zero = refl
sent_length xs rs (suc k) = length-set (sent_counted xs rs k) k _ ∙ sent_length xs rs k

-- an element of a list with another at one place
set_cases : (xs : List Counts) (c : ℕ) (x : Counts) → c < length xs → (d : ℕ) → get_or (set xs c x) d no_counts ≡ cond (eqb d c) x (get_or xs d no_counts)
set_cases xs c x h d = go (eqb d c) (eqb-true d c) (eqb-false d c)
  where
    go : (t : Bool) → (t ≡ true → d ≡ c) → (t ≡ false → d ≡ c → ⊥) → get_or (set xs c x) d no_counts ≡ cond t x (get_or xs d no_counts)
    go true e f = ap (λ (k : ℕ). get_or (set xs c x) k no_counts) (e refl) ∙ get_or-set_same xs c x no_counts h
    go false e f = get_or-set_other xs c d x no_counts (f refl)

-- a client's counts become others
put_counts : (xs : List Counts) (c : ℕ) (x y : Counts) → c < length xs → all_counted x 0 0 0 ≡ y → counts_at (set xs c x) ≡ put (counts_at xs) c y
unfolding counts_at put
put_counts xs c x y h e =
    fun_ext (λ d. ap (λ (z : Counts). all_counted z 0 0 0) (set_cases xs c x h d) ∙ go (eqb d c) (get_or xs d no_counts))
  where
    go : (t : Bool) (z : Counts) → all_counted (cond t x z) 0 0 0 ≡ cond t y (all_counted z 0 0 0)
    go true z = e
    go false z = refl

all_equal : (x : Counts) {i j k l m n : ℕ} → i ≡ l → j ≡ m → k ≡ n → all_counted x i j k ≡ all_counted x l m n
all_equal x p q r = λ h. all_counted x (p h) (q h) (r h)

ltb_next : (d k : ℕ) → (d ≡ k → ⊥) → ltb d k ≡ ltb d (suc k)
ltb_next d k n = go (ltb d k) (ltb-true d k) (ltb-false d k)
  where
    go : (t : Bool) → (t ≡ true → d < k) → (t ≡ false → k ≤ d) → t ≡ ltb d (suc k)
    go true p q = let l = p refl in sym (lt-ltb d (suc k) (omega arith))
    go false p q = let l = q refl in sym (le-ltb d (suc k) (omega arith))

-- what stops already, stops there
again : (x : Counts) (a b c : ℕ) → all_counted (all_counted x a b c) 0 0 0 ≡ all_counted x a b c
again x a b c = counted_twice x a b c 0 0 0 ∙ all_equal x (add-zero a) (add-zero b) (add-zero c)

module _ (table : List ℕ) (s : State) (values : List ℕ) (size : length s.counts ≡ 8) where
  module _ (c : ℕ) (low : c < 8) where
    abbrev old : Counts
    old = get_or s.counts c no_counts

    pub cleared_view : view table (next_counts s (counts_cleared s.counts c)) values ≡ with_count (view table s values) c no_counts
    unfolding view
    cleared_view =
        ap (with_counts (view table s values)) (put_counts s.counts c no_counts no_counts (rw size low) refl)

    pub line_view : view table (next_counts s (line_counted s.counts c)) values
        ≡ with_count (view table s values) c (lines_counted ((view table s values).counts c) 1)
    unfolding view counts_at
    line_view =
        ap (with_counts (view table s values))
        (put_counts s.counts c (all_counted old 1 0 0) (lines_counted (counts_at s.counts c) 1) (rw size low)
        (again old 1 0 0 ∙ sym (line_counted_lem old 0 0 0)))

  module _ (rs : List Record) where
    -- of the first k clients
    sent_at : (k : ℕ) → k ≤ 8 → (d : ℕ)
        → get_or (sent_counted s.counts rs k) d no_counts ≡ cond (ltb d k) (with_sent (get_or s.counts d no_counts) rs d) (get_or s.counts d no_counts)
    unfolding sent_counted
    sent_at zero h d = rw (le-ltb d 0 (omega arith)) refl
    sent_at (suc k) h d =
        let ih = sent_at k (omega arith) in
        let room : k < length (sent_counted s.counts rs k) = rw (sent_length s.counts rs k, size) (omega arith) in
        set_cases (sent_counted s.counts rs k) k (with_sent (get_or (sent_counted s.counts rs k) k no_counts) rs k) room d
        ∙ go ih (eqb d k) (eqb-true d k) (eqb-false d k)
      where
        go : ((d : ℕ) → get_or (sent_counted s.counts rs k) d no_counts ≡ cond (ltb d k) (with_sent (get_or s.counts d no_counts) rs d) (get_or s.counts d no_counts))
            → (t : Bool) → (t ≡ true → d ≡ k) → (t ≡ false → d ≡ k → ⊥)
            → cond t (with_sent (get_or (sent_counted s.counts rs k) k no_counts) rs k) (get_or (sent_counted s.counts rs k) d no_counts)
            ≡ cond (ltb d (suc k)) (with_sent (get_or s.counts d no_counts) rs d) (get_or s.counts d no_counts)
        go ih true e f =
            let own : get_or (sent_counted s.counts rs k) k no_counts ≡ get_or s.counts k no_counts =
            ih k ∙ ap (λ (b : Bool). cond b (with_sent (get_or s.counts k no_counts) rs k) (get_or s.counts k no_counts)) (le-ltb k k (omega arith)) in
            rw (e refl, lt-ltb k (suc k) (omega arith), own) refl
        go ih false e f = ih d ∙ ap (λ (b : Bool). cond b (with_sent (get_or s.counts d no_counts) rs d) (get_or s.counts d no_counts)) (ltb_next d k (f refl))

    pub sent_view : ((d : ℕ) → 8 ≤ d → NoneTo d rs) → view table (next_counts s (sent_counted s.counts rs 8)) values ≡ counting (view table s values) rs
    unfolding view counts_at
    sent_view none = ap (with_counts (view table s values)) (fun_ext (λ d. go d (ltb d 8) (ltb-false d 8) (sent_at 8 (omega arith) d)))
      where
        go : (d : ℕ) (t : Bool) → (t ≡ false → 8 ≤ d)
            → get_or (sent_counted s.counts rs 8) d no_counts ≡ cond t (with_sent (get_or s.counts d no_counts) rs d) (get_or s.counts d no_counts)
            → all_counted (get_or (sent_counted s.counts rs 8) d no_counts) 0 0 0 ≡ all_counted (all_counted (get_or s.counts d no_counts) 0 0 0) 0 (errors_sent d rs) (updates_sent d rs)
        go d true l e = rw e (counted_twice (get_or s.counts d no_counts) 0 (errors_sent d rs) (updates_sent d rs) 0 0 0 ∙ all_equal (get_or s.counts d no_counts) refl (add-zero _ ∙ sym (zero-add _)) (add-zero _ ∙ sym (zero-add _)) ∙ sym (counted_twice (get_or s.counts d no_counts) 0 0 0 0 (errors_sent d rs) (updates_sent d rs)))
        go d false l e =
            let n = none d (l refl) in
            rw (e, n.errors, n.updates) (sym (again (get_or s.counts d no_counts) 0 0 0))

-- ## The code that counts

module _ (xs counts : List Counts) (out : List ℕ) (written c : ℕ) (h : (rs : List Record) → Holds out written rs → counts ≡ sent_counted xs rs c) where
  -- one client more
  pub sent_step : (x : Counts) → ((rs : List Record) → Holds out written rs → x ≡ with_sent (get_or counts c no_counts) rs c)
      → (rs : List Record) → Holds out written rs → set counts c x ≡ sent_counted xs rs (c + 1)
  unfolding sent_counted
  sent_step x y rs k =
      let next : c + 1 ≡ suc c = omega arith in
      ap₂ (λ (l : List Counts) (z : Counts). set l c z) (h rs k) (y rs k ∙ ap (λ (l : List Counts). with_sent (get_or l c no_counts) rs c) (h rs k))
      ∙ ap (sent_counted xs rs) (sym next)

-- a state whose counts alone are others
pub counts_fit : (w : Table) (s r : State) (values : List ℕ) (xs : List Counts) → r ≡ next_counts s xs → is_unfit w s values ≡ false → is_unfit w r values ≡ false
unfolding is_unfit
counts_fit w s r values xs e h = rw e h

-- what is sent is counted, where nothing goes to clients that there are not; whatever the lines are
module _ (table : List ℕ) (s : Bare) (lines values out : List ℕ) (p : ℕ) (r : Bare) (k : SentCounted s out p r) (rs : List Record) (h : Holds out p rs) where
  pub sent_node : ((d : ℕ) → 8 ≤ d → NoneTo d rs) → view table (lined r lines) values ≡ counting (view table (lined s lines) values) rs
  sent_node none = ap (λ (x : Bare). view table (lined x lines) values) (k.is rs h) ∙ sent_view table (lined s lines) values k.size rs none

  pub sent_fit : (w : Table) → is_unfit w (lined s lines) values ≡ false → is_unfit w (lined r lines) values ≡ false
  sent_fit w f = counts_fit w (lined s lines) (lined r lines) values _ (ap (λ (x : Bare). lined x lines) (k.is rs h)) f

  pub sent_settings : r.settings ≡ s.settings
  sent_settings = ap (λ (x : Bare). x.settings) (k.is rs h)

  pub sent_clients : r.clients ≡ s.clients
  sent_clients = ap (λ (x : Bare). x.clients) (k.is rs h)
