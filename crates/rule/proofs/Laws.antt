-- Laws about records: what each client is sent among them, and which are updates. Assumes nothing.
use Rattle.std.specs.Prelude.{Option, Some, None, slice_get}
use Prim.Native.Nat.{ℕ, zero, suc, ◌+◌, ◌<◌, ◌≤◌}
use mathlib.Core.Bool.{Bool, true, false, cond}
use mathlib.Core.List.Memᴰ
use mathlib.Core.List.{List, [], ◌∷◌, ◌++◌, append_assoc, Memᴰ}
use mathlib.Core.Logic.{⊎_elim}
use mathlib.Core.Path.{◌≡◌, refl, sym, ◌∙◌, ap, subst}
use lib.Dec.{eqb}
use lib.ListN.{replicate}
use native.Mathlib.Nat.{add_comm, zero-add}
use native.Mathlib.Numerals.{add-one}
use Rattle.ascii.specs.Bytes.{count}
use native.Mathlib.Omega.{arith}
use borrow.Author.Tests.{eqb-true, ne_eqb}
use Rattle.table.specs.Table.{Parameter}
use Rattle.table.specs.Search.{Placed}
use Rattle.message.specs.Reply.{DataReport, Reply}
use Rattle.outbox.specs.Outbox.{Record, final, update, order_change, order_command}
use Rattle.plain.specs.Node.{Client, Value, showing, is_active, report_of, client_numbers, updates_to, updates_of}
use Rattle.plain.specs.Answer.{busy, busy_updates}
use Rattle.rule.specs.Records.{updates_for, replies_for, reports_of, busy_reports}

-- ## Records

pub updates_append : (d : ℕ) (x y : List Record) → updates_for d (x ++ y) ≡ updates_for d x ++ updates_for d y
unfolding updates_for
updates_append d [] y = refl
updates_append d (final c r ∷ x) y = updates_append d x y
updates_append d (update c r ∷ x) y =
    ap (cond (eqb d c) (r ∷ []) [] ++◌) (updates_append d x y) ∙ sym (append_assoc (cond (eqb d c) (r ∷ []) []) _ _)
updates_append d (order_change c p v ∷ x) y = updates_append d x y
updates_append d (order_command c p v ∷ x) y = updates_append d x y

pub replies_append : (d : ℕ) (x y : List Record) → replies_for d (x ++ y) ≡ replies_for d x ++ replies_for d y
unfolding replies_for
replies_append d [] y = refl
replies_append d (final c r ∷ x) y =
    ap (cond (eqb d c) (r ∷ []) [] ++◌) (replies_append d x y) ∙ sym (append_assoc (cond (eqb d c) (r ∷ []) []) _ _)
replies_append d (update c r ∷ x) y = replies_append d x y
replies_append d (order_change c p v ∷ x) y = replies_append d x y
replies_append d (order_command c p v ∷ x) y = replies_append d x y

-- a record that is no final reply
abbrev pub NotFinal : Record → Type 0
NotFinal (final c r) = ⊥
NotFinal (update c r) = Unit {0}
NotFinal (order_change c p v) = Unit {0}
NotFinal (order_command c p v) = Unit {0}

abbrev pub NoFinal : List Record → Type 0
NoFinal [] = Unit {0}
NoFinal (r ∷ rs) = NotFinal r × NoFinal rs

pub no_final_append : (x y : List Record) → NoFinal x → NoFinal y → NoFinal (x ++ y)
no_final_append [] y h k = k
no_final_append (r ∷ x) y h k = (h.0, no_final_append x y h.1 k)

pub no_final_replies : (d : ℕ) (rs : List Record) → NoFinal rs → replies_for d rs ≡ []
unfolding replies_for
no_final_replies d [] h = refl
no_final_replies d (final c r ∷ rs) h = absurd h.0
no_final_replies d (update c r ∷ rs) h = no_final_replies d rs h.1
no_final_replies d (order_change c p v ∷ rs) h = no_final_replies d rs h.1
no_final_replies d (order_command c p v ∷ rs) h = no_final_replies d rs h.1

pub updates_to_no_final : (f : ℕ → Client) (i : ℕ) (r : DataReport) (cs : List ℕ) → NoFinal (updates_to f i r cs)
unfolding updates_to
updates_to_no_final f i r [] = tt
updates_to_no_final f i r (c ∷ cs) = go (is_active (f c) i) (updates_to_no_final f i r cs)
  where
    go : (q : Bool) → NoFinal (updates_to f i r cs) → NoFinal (cond q (update c r ∷ []) [] ++ updates_to f i r cs)
    go true h = (tt, h)
    go false h = h

-- with those of a status before them
pub busy_no_final : (f : ℕ → Client) (o : Option (ℕ × Placed Parameter)) (t i : ℕ) (r : DataReport) → NoFinal (busy_updates f o t ++ updates_to f i r client_numbers)
unfolding busy_updates
busy_no_final f None t i r = updates_to_no_final f i r client_numbers
busy_no_final f (Some s) t i r =
    let first = report_of s.1 (showing busy t) in
    no_final_append (updates_to f s.1.home first client_numbers) (updates_to f i r client_numbers)
    (updates_to_no_final f s.1.home first client_numbers)
    (updates_to_no_final f i r client_numbers)

pub updates_of_no_final : (c : ℕ) (wanted : ℕ → Bool) (values : ℕ → Value) (k : ℕ) (ps : List (Placed Parameter))
    → NoFinal (updates_of c wanted values k ps)
unfolding updates_of
updates_of_no_final c wanted values k [] = tt
updates_of_no_final c wanted values k (p ∷ ps) = go (wanted p.home) (updates_of_no_final c wanted values (suc k) ps)
  where
    go : (q : Bool) → NoFinal (updates_of c wanted values (suc k) ps)
        → NoFinal (cond q (update c (report_of p (values k)) ∷ []) [] ++ updates_of c wanted values (suc k) ps)
    go true h = (tt, h)
    go false h = h

-- ## Members of lists of records

-- no final reply is a member
pub final_not_in : (rs : List Record) (c : ℕ) (r : Reply) → NoFinal rs → Memᴰ (final c r) rs → ⊥
final_not_in [] c r h m = Memᴰ.not-nil m
final_not_in (x ∷ rs) c r h m =
    ⊎_elim (λ e. subst NotFinal (sym e) h.0) (λ l. final_not_in rs c r h.1 l) (Memᴰ.cases_cons m)

-- an update among those to the clients of a module
pub updates_to_member : (f : ℕ → Client) (i : ℕ) (r : DataReport) (cs : List ℕ) (d : ℕ) (x : DataReport)
    → Memᴰ (update d x) (updates_to f i r cs) → (x ≡ r) × (is_active (f d) i ≡ true)
unfolding updates_to
updates_to_member f i r [] d x m = absurd (Memᴰ.not-nil m)
updates_to_member f i r (c ∷ cs) d x m = go (is_active (f c) i) refl (λ l. updates_to_member f i r cs d x l) m
  where
    go : (q : Bool) → is_active (f c) i ≡ q
        → (Memᴰ (update d x) (updates_to f i r cs) → (x ≡ r) × (is_active (f d) i ≡ true))
        → Memᴰ (update d x) (cond q (update c r ∷ []) [] ++ updates_to f i r cs) → (x ≡ r) × (is_active (f d) i ≡ true)
    go true e h l =
        ⊎_elim (λ q. let p : d ≡ c = cc in (cc, ap (λ y. is_active (f y) i) p ∙ e)) h (Memᴰ.cases_cons l)
    go false e h l = h l

-- x tells of one of these parameters, of which the first has the number k, in a module that is wanted
pub record Initial (wanted : ℕ → Bool) (values : ℕ → Value) (ps : List (Placed Parameter)) (k : ℕ) (x : DataReport) : Type 0 where
  pub i : ℕ
  pub p : Placed Parameter
  pub there : slice_get ps i ≡ Some p
  pub truly : x ≡ report_of p (values (k + i))
  pub asked : wanted p.home ≡ true

initial_later : (wanted : ℕ → Bool) (values : ℕ → Value) (p : Placed Parameter) (ps : List (Placed Parameter)) (k : ℕ) (x : DataReport)
    → Initial wanted values ps (suc k) x → Initial wanted values (p ∷ ps) k x
initial_later wanted values p ps k x h =
    let q : suc k + h.i ≡ k + suc h.i = omega arith in
    record {
      i = suc h.i;
      p = h.p;
      there = h.there;
      truly = h.truly ∙ ap (λ j. report_of h.p (values j)) q;
      asked = h.asked;
    }

-- an update among the initial ones
pub updates_of_member : (c : ℕ) (wanted : ℕ → Bool) (values : ℕ → Value) (ps : List (Placed Parameter)) (k d : ℕ) (x : DataReport)
    → Memᴰ (update d x) (updates_of c wanted values k ps) → (d ≡ c) × Initial wanted values ps k x
unfolding updates_of
updates_of_member c wanted values [] k d x m = absurd (Memᴰ.not-nil m)
updates_of_member c wanted values (p ∷ ps) k d x m =
    go (wanted p.home) refl (λ l. updates_of_member c wanted values ps (suc k) d x l) m
  where
    now : wanted p.home ≡ true → x ≡ report_of p (values k) → Initial wanted values (p ∷ ps) k x
    now e s =
        let z : k ≡ k + 0 = omega arith in
        record { i = 0; p = p; there = refl; truly = s ∙ ap (λ j. report_of p (values j)) z; asked = e }

    go : (q : Bool) → wanted p.home ≡ q
        → (Memᴰ (update d x) (updates_of c wanted values (suc k) ps) → (d ≡ c) × Initial wanted values ps (suc k) x)
        → Memᴰ (update d x) (cond q (update c (report_of p (values k)) ∷ []) [] ++ updates_of c wanted values (suc k) ps)
        → (d ≡ c) × Initial wanted values (p ∷ ps) k x
    go true e h l =
        ⊎_elim
        (λ q. (cc, now e (cc)))
        (λ r. let t = h r in (t.0, initial_later wanted values p ps k x t.1))
        (Memᴰ.cases_cons l)
    go false e h l = let t = h l in (t.0, initial_later wanted values p ps k x t.1)

-- ## The updates of one client among those to the clients of a module

updates_to_for : (f : ℕ → Client) (i : ℕ) (r : DataReport) (d : ℕ) (cs : List ℕ)
    → updates_for d (updates_to f i r cs) ≡ cond (is_active (f d) i) (replicate (count (eqb d) cs) r) []
unfolding updates_for updates_to count
updates_to_for f i r d [] = both (is_active (f d) i)
  where
    both : (q : Bool) → ◌≡◌ {A = List DataReport} [] (cond q [] [])
    both true = refl
    both false = refl
updates_to_for f i r d (c ∷ cs) =
    updates_append d (cond (is_active (f c) i) (update c r ∷ []) []) (updates_to f i r cs)
    ∙ ap (updates_for d (cond (is_active (f c) i) (update c r ∷ []) []) ++◌) (updates_to_for f i r d cs)
    ∙ go (eqb d c) refl (is_active (f c) i) refl (is_active (f d) i) refl
  where
    go : (e : Bool) → eqb d c ≡ e → (a : Bool) → is_active (f c) i ≡ a → (b : Bool) → is_active (f d) i ≡ b
        → updates_for d (cond a (update c r ∷ []) []) ++ cond b (replicate (count (eqb d) cs) r) []
        ≡ cond b (replicate (cond e 1 0 + count (eqb d) cs) r) []
    go true p true q true s = rw (p, add_comm 1 (count (eqb d) cs), add-one)
    go true p false q false s = refl
    go true p true q false s = let z : true ≡ false = sym q ∙ ap (λ x. is_active (f x) i) (sym (eqb-true d c p)) ∙ s in cc
    go true p false q true s = let z : true ≡ false = sym s ∙ ap (λ x. is_active (f x) i) (eqb-true d c p) ∙ q in cc
    go false p true q true s = rw (p, zero-add)
    go false p true q false s = rw p
    go false p false q true s = rw zero-add
    go false p false q false s = refl

-- each of the clients 0 to 7 stands once among them, and no other
client_once : (d : ℕ) → d < 8 → count (eqb d) client_numbers ≡ 1
unfolding count
client_once zero h = refl
client_once (suc zero) h = refl
client_once (suc (suc zero)) h = refl
client_once (suc (suc (suc zero))) h = refl
client_once (suc (suc (suc (suc zero)))) h = refl
client_once (suc (suc (suc (suc (suc zero))))) h = refl
client_once (suc (suc (suc (suc (suc (suc zero)))))) h = refl
client_once (suc (suc (suc (suc (suc (suc (suc zero))))))) h = refl
client_once (suc (suc (suc (suc (suc (suc (suc (suc d)))))))) h = absurd (omega arith)

client_never : (d : ℕ) → 8 ≤ d → count (eqb d) client_numbers ≡ 0
unfolding count
client_never d h =
    simp (
      ne_eqb d 0 (λ e. omega arith),
      ne_eqb d 1 (λ e. omega arith),
      ne_eqb d 2 (λ e. omega arith),
      ne_eqb d 3 (λ e. omega arith),
      ne_eqb d 4 (λ e. omega arith),
      ne_eqb d 5 (λ e. omega arith),
      ne_eqb d 6 (λ e. omega arith),
      ne_eqb d 7 (λ e. omega arith),
    )

module _ (f : ℕ → Client) (i : ℕ) (r : DataReport) (d : ℕ) where
  pub sent_once : d < 8 → updates_for d (updates_to f i r client_numbers) ≡ cond (is_active (f d) i) (r ∷ []) []
  sent_once h =
      updates_to_for f i r d client_numbers ∙ ap (λ k. cond (is_active (f d) i) (replicate k r) []) (client_once d h)

  pub sent_never : 8 ≤ d → updates_for d (updates_to f i r client_numbers) ≡ []
  sent_never h =
      updates_to_for f i r d client_numbers
      ∙ ap (λ k. cond (is_active (f d) i) (replicate k r) []) (client_never d h)
      ∙ go (is_active (f d) i)
    where
      go : (q : Bool) → ◌≡◌ {A = List DataReport} (cond q [] []) []
      go true = refl
      go false = refl

-- of a status that is set first
pub busy_once : (f : ℕ → Client) (o : Option (ℕ × Placed Parameter)) (t d : ℕ) → d < 8 → updates_for d (busy_updates f o t) ≡ busy_reports (f d) o t
unfolding busy_updates busy_reports updates_for
busy_once f None t d h = refl
busy_once f (Some s) t d h = sent_once f s.1.home _ d h

pub busy_never : (f : ℕ → Client) (o : Option (ℕ × Placed Parameter)) (t d : ℕ) → 8 ≤ d → updates_for d (busy_updates f o t) ≡ []
unfolding busy_updates updates_for
busy_never f None t d h = refl
busy_never f (Some s) t d h = sent_never f s.1.home _ d h

-- each of the clients 0 to 7 that has the module active is sent its update
sent_in : (f : ℕ → Client) (i : ℕ) (r : DataReport) (d : ℕ) (cs : List ℕ) → is_active (f d) i ≡ true → Memᴰ d cs
    → Memᴰ (update d r) (updates_to f i r cs)
unfolding updates_to
sent_in f i r d [] h m = absurd (Memᴰ.not-nil m)
sent_in f i r d (c ∷ cs) h m =
    ⊎_elim
    (λ e.
    let here = ap (λ q. cond q (update c r ∷ []) []) (sym (ap (λ x. is_active (f x) i) (sym e) ∙ h)) in
    Memᴰ.append_left (updates_to f i r cs) (subst (Memᴰ (update d r)) here (Memᴰ.head (ap (λ x. update x r) e))))
    (λ l. Memᴰ.append_right (cond (is_active (f c) i) (update c r ∷ []) []) (sent_in f i r d cs h l))
    (Memᴰ.cases_cons m)

-- a client's number is among them
client_in : (d : ℕ) → d < 8 → Memᴰ d client_numbers
client_in zero h = Memᴰ.head refl
client_in (suc zero) h = Memᴰ.tail (Memᴰ.head refl)
client_in (suc (suc zero)) h = Memᴰ.tail (Memᴰ.tail (Memᴰ.head refl))
client_in (suc (suc (suc zero))) h = Memᴰ.tail (Memᴰ.tail (Memᴰ.tail (Memᴰ.head refl)))
client_in (suc (suc (suc (suc zero)))) h = Memᴰ.tail (Memᴰ.tail (Memᴰ.tail (Memᴰ.tail (Memᴰ.head refl))))
client_in (suc (suc (suc (suc (suc zero))))) h =
    Memᴰ.tail (Memᴰ.tail (Memᴰ.tail (Memᴰ.tail (Memᴰ.tail (Memᴰ.head refl)))))
client_in (suc (suc (suc (suc (suc (suc zero)))))) h =
    Memᴰ.tail (Memᴰ.tail (Memᴰ.tail (Memᴰ.tail (Memᴰ.tail (Memᴰ.tail (Memᴰ.head refl))))))
client_in (suc (suc (suc (suc (suc (suc (suc zero))))))) h =
    Memᴰ.tail (Memᴰ.tail (Memᴰ.tail (Memᴰ.tail (Memᴰ.tail (Memᴰ.tail (Memᴰ.tail (Memᴰ.head refl)))))))
client_in (suc (suc (suc (suc (suc (suc (suc (suc d)))))))) h = absurd (omega arith)

pub sent_to_lem : (f : ℕ → Client) (i : ℕ) (r : DataReport) (d : ℕ) → d < 8 → is_active (f d) i ≡ true → Memᴰ (update d r) (updates_to f i r client_numbers)
sent_to_lem f i r d l h = sent_in f i r d client_numbers h (client_in d l)

-- ## The initial updates of one client

pub updates_of_for : (c : ℕ) (wanted : ℕ → Bool) (values : ℕ → Value) (ps : List (Placed Parameter)) (k d : ℕ)
    → updates_for d (updates_of c wanted values k ps) ≡ cond (eqb d c) (reports_of wanted values k ps) []
unfolding updates_for updates_of reports_of
updates_of_for c wanted values [] k d = both_ways (eqb d c)
  where
    both_ways : (q : Bool) → ◌≡◌ {A = List DataReport} [] (cond q [] [])
    both_ways true = refl
    both_ways false = refl
updates_of_for c wanted values (p ∷ ps) k d =
    updates_append d (cond (wanted p.home) (update c (report_of p (values k)) ∷ []) []) (updates_of c wanted values (suc k) ps)
    ∙ ap
    (updates_for d (cond (wanted p.home) (update c (report_of p (values k)) ∷ []) []) ++◌)
    (updates_of_for c wanted values ps (suc k) d)
    ∙ go (wanted p.home) (eqb d c) refl
  where
    go : (q e : Bool) → eqb d c ≡ e
        → updates_for d (cond q (update c (report_of p (values k)) ∷ []) []) ++ cond e (reports_of wanted values (suc k) ps) []
        ≡ cond e (cond q (report_of p (values k) ∷ []) [] ++ reports_of wanted values (suc k) ps) []
    go true true h = rw h
    go true false h = rw h
    go false true h = refl
    go false false h = refl
