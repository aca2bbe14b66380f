-- What a client is sent, and the driver's orders, among records laid end to end and among updates. Assumes nothing.
use Rattle.std.specs.Prelude.{Option, Some, None}
use Prim.Native.Nat.{ℕ, suc, ◌+◌}
use native.Mathlib.Nat.{zero-add}
use mathlib.Core.Bool.{Bool, true, false, cond, ◌&&◌, false≢true}
use mathlib.Core.List.{List, [], ◌∷◌, ◌++◌, append_assoc}
use mathlib.Core.Path.{◌≡◌, refl, sym, ◌∙◌, ap, ap₂, subst}
use lib.Dec.{eqb}
use borrow.Author.Tests.{eqb-true, eq-eqb, ne_eqb}
use Rattle.table.specs.Table.{Parameter}
use Rattle.table.specs.Search.{Placed}
use Rattle.message.specs.Reply.{DataReport, is_error}
use Rattle.outbox.specs.Outbox.{Record, final, update, order_change, order_command}
use Rattle.outbox.specs.Sent.{error_to, update_to, errors_sent, updates_sent}
use Rattle.plain.specs.Node.{Client, Value, is_active, report_of, client_numbers, updates_to, updates_of}
use Rattle.plain.specs.Answer.{busy_updates}
use Rattle.rule.proofs.Laws.{NoFinal}
use Rattle.chatter.specs.Without.{Choice, sent_to, orders, orders_less}

-- ## Records laid end to end

pub sent_append : (c : ℕ) (x y : List Record) → sent_to c (x ++ y) ≡ sent_to c x ++ sent_to c y
unfolding sent_to
sent_append c [] y = refl
sent_append c (final d r ∷ x) y =
    ap (cond (eqb c d) (final d r ∷ []) [] ++◌) (sent_append c x y) ∙ sym (append_assoc (cond (eqb c d) (final d r ∷ []) []) _ _)
sent_append c (update d r ∷ x) y =
    ap (cond (eqb c d) (update d r ∷ []) [] ++◌) (sent_append c x y) ∙ sym (append_assoc (cond (eqb c d) (update d r ∷ []) []) _ _)
sent_append c (order_change d p v ∷ x) y = sent_append c x y
sent_append c (order_command d p v ∷ x) y = sent_append c x y

pub orders_append : (x y : List Record) → orders (x ++ y) ≡ orders x ++ orders y
unfolding orders
orders_append [] y = refl
orders_append (final d r ∷ x) y = orders_append x y
orders_append (update d r ∷ x) y = orders_append x y
orders_append (order_change d p v ∷ x) y = ap (order_change d p v ∷◌) (orders_append x y)
orders_append (order_command d p v ∷ x) y = ap (order_command d p v ∷◌) (orders_append x y)

-- no reply among the first, so that the numbers of lines stay
pub less_append : (f : Choice) (k : ℕ → ℕ) (x y : List Record) → NoFinal x → orders_less f k (x ++ y) ≡ orders_less f k x ++ orders_less f k y
unfolding orders_less
less_append f k [] y h = refl
less_append f k (final d r ∷ x) y h = absurd h.0
less_append f k (update d r ∷ x) y h = less_append f k x y h.1
less_append f k (order_change d p v ∷ x) y h = ap (order_change d p v ∷◌) (less_append f k x y h.1)
less_append f k (order_command d p v ∷ x) y h =
    ap (cond (f d (k d)) [] (order_command d p v ∷ []) ++◌) (less_append f k x y h.1)
    ∙ sym (append_assoc (cond (f d (k d)) [] (order_command d p v ∷ [])) _ _)

-- ## Counts

-- what is counted of client c is counted of what it is sent
eqb_turned : (c d : ℕ) (q : Bool) → eqb c d ≡ q → eqb d c ≡ q
eqb_turned c d true e = eq-eqb d c (sym (eqb-true c d e))
eqb_turned c d false e = ne_eqb d c (λ i. false≢true (sym e ∙ eq-eqb c d (sym i)))

counted_heard : (g : ℕ → Record → ℕ) (c d : ℕ) (x : Record) → (eqb d c ≡ false → g c x ≡ 0) → (rs : List Record)
    → (G : List Record → ℕ) → ((y : Record) (ys : List Record) → G (y ∷ ys) ≡ g c y + G ys) → G rs ≡ G (sent_to c rs)
    → G (x ∷ rs) ≡ G (cond (eqb c d) (x ∷ []) [] ++ sent_to c rs)
counted_heard g c d x free rs G each h = go (eqb c d) refl
  where
    go : (q : Bool) → eqb c d ≡ q → G (x ∷ rs) ≡ G (cond q (x ∷ []) [] ++ sent_to c rs)
    go true e = each x rs ∙ ap (g c x +◌) h ∙ sym (each x (sent_to c rs))
    go false e = each x rs ∙ ap₂ ◌+◌ (free (eqb_turned c d false e)) h ∙ zero-add (G (sent_to c rs))

pub errors_heard : (c : ℕ) (rs : List Record) → errors_sent c rs ≡ errors_sent c (sent_to c rs)
unfolding errors_sent sent_to error_to
errors_heard c [] = refl
errors_heard c (final d r ∷ rs) =
    counted_heard error_to c d (final d r) (λ e. ap (λ q. cond (q && is_error r) 1 0) e) rs (errors_sent c) (λ y ys. refl) (errors_heard c rs)
errors_heard c (update d r ∷ rs) = counted_heard error_to c d (update d r) (λ e. refl) rs (errors_sent c) (λ y ys. refl) (errors_heard c rs)
errors_heard c (order_change d p v ∷ rs) = zero-add (errors_sent c rs) ∙ errors_heard c rs
errors_heard c (order_command d p v ∷ rs) = zero-add (errors_sent c rs) ∙ errors_heard c rs

pub updates_heard : (c : ℕ) (rs : List Record) → updates_sent c rs ≡ updates_sent c (sent_to c rs)
unfolding updates_sent sent_to update_to
updates_heard c [] = refl
updates_heard c (final d r ∷ rs) = counted_heard update_to c d (final d r) (λ e. refl) rs (updates_sent c) (λ y ys. refl) (updates_heard c rs)
updates_heard c (update d r ∷ rs) =
    counted_heard update_to c d (update d r) (λ e. ap (λ q. cond q 1 0) e) rs (updates_sent c) (λ y ys. refl) (updates_heard c rs)
updates_heard c (order_change d p v ∷ rs) = zero-add (updates_sent c rs) ∙ updates_heard c rs
updates_heard c (order_command d p v ∷ rs) = zero-add (updates_sent c rs) ∙ updates_heard c rs

-- ## Updates

-- updates only
abbrev pub Updates : List Record → Type 0
Updates [] = Unit {0}
Updates (final d r ∷ rs) = ⊥
Updates (update d r ∷ rs) = Updates rs
Updates (order_change d p v ∷ rs) = ⊥
Updates (order_command d p v ∷ rs) = ⊥

-- hold no order
pub updates_orders : (rs : List Record) → Updates rs → orders rs ≡ []
unfolding orders
updates_orders [] h = refl
updates_orders (final d r ∷ rs) h = absurd h
updates_orders (update d r ∷ rs) h = updates_orders rs h
updates_orders (order_change d p v ∷ rs) h = absurd h
updates_orders (order_command d p v ∷ rs) h = absurd h

pub updates_less : (f : Choice) (k : ℕ → ℕ) (rs : List Record) → Updates rs → orders_less f k rs ≡ []
unfolding orders_less
updates_less f k [] h = refl
updates_less f k (final d r ∷ rs) h = absurd h
updates_less f k (update d r ∷ rs) h = updates_less f k rs h
updates_less f k (order_change d p v ∷ rs) h = absurd h
updates_less f k (order_command d p v ∷ rs) h = absurd h

pub to_updates : (g : ℕ → Client) (i : ℕ) (r : DataReport) (cs : List ℕ) → Updates (updates_to g i r cs)
unfolding updates_to
to_updates g i r [] = tt
to_updates g i r (e ∷ cs) = go (is_active (g e) i) (to_updates g i r cs)
  where
    go : (q : Bool) → Updates (updates_to g i r cs) → Updates (cond q (update e r ∷ []) [] ++ updates_to g i r cs)
    go true h = h
    go false h = h

pub of_updates : (d : ℕ) (wanted : ℕ → Bool) (values : ℕ → Value) (k : ℕ) (ps : List (Placed Parameter))
    → Updates (updates_of d wanted values k ps)
unfolding updates_of
of_updates d wanted values k [] = tt
of_updates d wanted values k (p ∷ ps) = go (wanted p.home) (of_updates d wanted values (suc k) ps)
  where
    go : (q : Bool) → Updates (updates_of d wanted values (suc k) ps)
        → Updates (cond q (update d (report_of p (values k)) ∷ []) [] ++ updates_of d wanted values (suc k) ps)
    go true h = h
    go false h = h

-- those of a change: of a status, and then of the parameter
abbrev pub change_updates : (ℕ → Client) → Option (ℕ × Placed Parameter) → ℕ → ℕ → DataReport → List Record
change_updates g o t i r = busy_updates g o t ++ updates_to g i r client_numbers

pub change_updates_lem : (g : ℕ → Client) (o : Option (ℕ × Placed Parameter)) (t i : ℕ) (r : DataReport) → Updates (change_updates g o t i r)
unfolding busy_updates
change_updates_lem g None t i r = to_updates g i r client_numbers
change_updates_lem g (Some s) t i r = joined (updates_to g s.1.home _ client_numbers) (to_updates g s.1.home _ client_numbers)
  where
    joined : (x : List Record) → Updates x → Updates (x ++ updates_to g i r client_numbers)
    joined [] h = to_updates g i r client_numbers
    joined (final d y ∷ x) h = absurd h
    joined (update d y ∷ x) h = joined x h
    joined (order_change d p v ∷ x) h = absurd h
    joined (order_command d p v ∷ x) h = absurd h

-- Neither history orders anything by updates.
pub none_ordered : (f : Choice) (k : ℕ → ℕ) (a b : List Record) → Updates a → Updates b → orders b ≡ orders_less f k a
none_ordered f k a b h g = updates_orders b g ∙ sym (updates_less f k a h)

-- another client's update is not sent to client c
unsent : (c d : ℕ) → eqb c d ≡ false → (r : DataReport) (q : Bool) → sent_to c (cond q (update d r ∷ []) []) ≡ []
unfolding sent_to
unsent c d e r true = ap (λ q. cond q (update d r ∷ []) [] ++ []) e
unsent c d e r false = refl

-- A client's updates of a setting are by its own active modules.
pub sent_to_lem : (c : ℕ) (g h : ℕ → Client) → h c ≡ g c → (i : ℕ) (r : DataReport) (cs : List ℕ)
    → sent_to c (updates_to h i r cs) ≡ sent_to c (updates_to g i r cs)
unfolding updates_to
sent_to_lem c g h s i r [] = refl
sent_to_lem c g h s i r (d ∷ cs) =
    sent_append c (cond (is_active (h d) i) (update d r ∷ []) []) (updates_to h i r cs)
    ∙ ap₂ ◌++◌ (go (eqb c d) refl) (sent_to_lem c g h s i r cs)
    ∙ sym (sent_append c (cond (is_active (g d) i) (update d r ∷ []) []) (updates_to g i r cs))
  where
    go : (q : Bool) → eqb c d ≡ q
        → sent_to c (cond (is_active (h d) i) (update d r ∷ []) []) ≡ sent_to c (cond (is_active (g d) i) (update d r ∷ []) [])
    go true e =
        ap
        (λ y. sent_to c (cond (is_active y i) (update d r ∷ []) []))
        (subst (λ j. h j ≡ g j) (eqb-true c d e) s)
    go false e = unsent c d e r (is_active (h d) i) ∙ sym (unsent c d e r (is_active (g d) i))

pub sent_change : (c : ℕ) (g h : ℕ → Client) → h c ≡ g c → (o : Option (ℕ × Placed Parameter)) (t i : ℕ) (r : DataReport)
    → sent_to c (change_updates h o t i r) ≡ sent_to c (change_updates g o t i r)
unfolding busy_updates
sent_change c g h e None t i r = sent_to_lem c g h e i r client_numbers
sent_change c g h e (Some s) t i r =
    sent_append c (updates_to h s.1.home _ client_numbers) (updates_to h i r client_numbers)
    ∙ ap₂ ◌++◌ (sent_to_lem c g h e s.1.home _ client_numbers) (sent_to_lem c g h e i r client_numbers)
    ∙ sym (sent_append c (updates_to g s.1.home _ client_numbers) (updates_to g i r client_numbers))

-- Another client's activation sends it nothing.
pub sent_of : (c d : ℕ) → eqb c d ≡ false → (wanted : ℕ → Bool) (values : ℕ → Value) (k : ℕ) (ps : List (Placed Parameter))
    → sent_to c (updates_of d wanted values k ps) ≡ []
unfolding updates_of sent_to
sent_of c d e wanted values k [] = refl
sent_of c d e wanted values k (p ∷ ps) =
    sent_append c (cond (wanted p.home) (update d (report_of p (values k)) ∷ []) []) (updates_of d wanted values (suc k) ps)
    ∙ ap₂ ◌++◌ (unsent c d e (report_of p (values k)) (wanted p.home)) (sent_of c d e wanted values (suc k) ps)
