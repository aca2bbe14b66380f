-- Of the records of a piece only the first may order a change, and what it orders is held then. Assumes nothing.
use Rattle.std.specs.Prelude.{Option, Some, None, slice_get}
use Prim.Native.Nat.{ℕ, suc}
use native.Mathlib.Omega.{arith}
use mathlib.Core.Bool.{Bool, true, false, cond}
use mathlib.Core.List.{List, [], ◌∷◌, ◌++◌}
use mathlib.Core.Path.{◌≡◌, refl, sym, ap, ap₂, subst, ◌∙◌}
use lib.Dec.{eqb}
use lib.ListN.{length}
use borrow.Author.Tests.{eq-eqb, ne_eqb}
use Rattle.ascii.specs.Text.{bytes}
use Rattle.ascii.specs.Bytes.{head}
use Rattle.ascii.specs.Numbers.{two_bytes}
use Rattle.table.specs.Table.{Parameter, Table}
use Rattle.table.specs.Search.{Placed, parameters}
use Rattle.message.specs.Line.{Parts}
use Rattle.message.specs.Request.{Request, request}
use Rattle.message.specs.Reply.{valued, DataReport}
use Rattle.outbox.specs.Outbox.{Record, final, update, order_change, order_command, mark, client, body, encode, encode_all}
use Rattle.plain.specs.Node.{Client, Value, Node, Setting, setting_value, set_values, is_active, updates_to, updates_of, report_of}
use Rattle.plain.specs.Answer.{busy_settings, busy_updates, status_of, Outcome, activates, deactivates, sets, outcome, answer_parts, answer}
use Rattle.plain.specs.Calls.{ended, piece_effect, has_feed}
use Rattle.plain.proofs.Busy.{set_more}
use Rattle.plain.proofs.Put.{put_at}
use Rattle.plain.proofs.Outcomes.{node_after, before, reply_to, concluded, outcome_holds}
use Rattle.replay.specs.Settings.{orders_of}
use Rattle.replay.specs.Clauses.Figured.{order_in}

abbrev pub NoOrders : List Record → Type 0
NoOrders rs = (k : ℕ) → orders_of k rs ≡ []

no_both : (xs ys : List Record) → NoOrders xs → NoOrders ys → NoOrders (xs ++ ys)
unfolding orders_of
no_both [] ys h g k = g k
no_both (final c r ∷ xs) ys h g k = no_both xs ys h g k
no_both (update c r ∷ xs) ys h g k = no_both xs ys h g k
no_both (order_change c p v ∷ xs) ys h g k =
    let z : suc (length (orders_of p xs)) ≡ 0 = sym (ap length (ap (λ (t : Bool). cond t (v ∷ []) [] ++ orders_of p xs) (eq-eqb p p refl))) ∙ ap length (h p) in
    absurd (omega arith)
no_both (order_command c p v ∷ xs) ys h g k = no_both xs ys h g k

pub updates_to_lem : (f : ℕ → Client) (i : ℕ) (r : DataReport) (cs : List ℕ) → NoOrders (updates_to f i r cs)
unfolding updates_to orders_of
updates_to_lem f i r [] k = refl
updates_to_lem f i r (c ∷ cs) k = no_both (cond (is_active (f c) i) (update c r ∷ []) []) (updates_to f i r cs) (go (is_active (f c) i)) (updates_to_lem f i r cs) k
  where
    go : (t : Bool) → NoOrders (cond t (update c r ∷ []) [])
    go true j = refl
    go false j = refl

updates_of_lem : (c : ℕ) (wanted : ℕ → Bool) (values : ℕ → Value) (i : ℕ) (ps : List (Placed Parameter)) → NoOrders (updates_of c wanted values i ps)
unfolding updates_of orders_of
updates_of_lem c wanted values i [] k = refl
updates_of_lem c wanted values i (p ∷ ps) k =
    no_both (cond (wanted p.home) (update c (report_of p (values i)) ∷ []) []) (updates_of c wanted values (suc i) ps) (go (wanted p.home))
    (updates_of_lem c wanted values (suc i) ps) k
  where
    go : (t : Bool) → NoOrders (cond t (update c (report_of p (values i)) ∷ []) [])
    go true j = refl
    go false j = refl

busy_updates_lem : (f : ℕ → Client) (o : Option (ℕ × Placed Parameter)) (t : ℕ) → NoOrders (busy_updates f o t)
unfolding busy_updates orders_of
busy_updates_lem f None t k = refl
busy_updates_lem f (Some s) t k = updates_to_lem f s.1.home _ _ k

-- what is set last is held
set_last : (f : ℕ → Value) (xs : List Setting) (s : Setting) → (set_values f (xs ++ (s ∷ [])) s.parameter).held ≡ s.held
set_last f xs s =
    ap (λ (g : ℕ → Value). (g s.parameter).held) (set_more f xs (s ∷ []))
    ∙ ap (λ (x : Value). x.held) (put_at (set_values f xs) s.parameter (setting_value s))

-- no order, or one at the front, after which what it orders is held among the values f
pub data Ordered (w : Table) (f : ℕ → Value) : List Record → Type 0 where
  no_order : {rs : List Record} → NoOrders rs → Ordered w f rs
  one_order : {rs : List Record} (c k : ℕ) (p : Placed Parameter) (v : List ℕ) → slice_get (parameters w) k ≡ Some p → (f k).held ≡ valued v
      → NoOrders rs → Ordered w f (order_change c k v ∷ rs)

no_records : NoOrders []
unfolding orders_of
no_records k = refl

one_reply : (c : ℕ) (o : Outcome) (p : Parts) → NoOrders (final c (reply_to p o) ∷ [])
unfolding orders_of
one_reply c o p k = refl

one_command : (c k : ℕ) (v : List ℕ) → NoOrders (order_command c k v ∷ [])
unfolding orders_of
one_command c k v j = refl

with_reply : {w : Table} {f : ℕ → Value} (rs xs : List Record) → Ordered w f rs → NoOrders xs → Ordered w f (rs ++ xs)
with_reply rs xs (no_order h) g = no_order (no_both rs xs h g)
with_reply _ xs (one_order {rs = rs} c k p v t e h) g = one_order c k p v t e (no_both rs xs h g)

outcome_ordered : (w : Table) (n : Node) (c now : ℕ) (q : Request) → Ordered w (node_after n (outcome w n c now q)).values (before (outcome w n c now q))
unfolding activates deactivates sets
outcome_ordered w n c now =
    outcome_holds (λ q o. Ordered w (node_after n o).values (before o)) w n c now
    (record {
      bad = λ q x. no_order no_records;
      failing = λ k f t h e. no_order no_records;
      telling = λ q f h. no_order no_records;
      activating = λ m f h. no_order (updates_of_lem c f n.values 0 (parameters w));
      deactivating = λ m f h. no_order no_records;
      setting = λ k v h.
          one_order c k.0 k.1 _ h.there (set_last n.values (busy_settings (status_of w k.1) now) _)
          (no_both (busy_updates n.clients (status_of w k.1) now) _ (busy_updates_lem n.clients (status_of w k.1) now)
          (updates_to_lem n.clients k.1.home _ _));
      doing = λ k v h. no_order (one_command c k.0 _);
    })

parts_ordered : (w : Table) (n : Node) (c now : ℕ) (p : Parts) → Ordered w (answer_parts w n c now p).0.values (answer_parts w n c now p).1
unfolding answer_parts
parts_ordered w n c now p =
    let o = outcome w n c now (request p) in
    subst (λ (x : Node × List Record). Ordered w x.0.values x.1) (sym (concluded w n c now p o))
    (with_reply (before o) (final c (reply_to p o) ∷ []) (outcome_ordered w n c now (request p)) (one_reply c o p))

ended_ordered : (w : Table) (n : Node) (c t : ℕ) (b : Bool) → Ordered w (ended w n c t b).0.values (ended w n c t b).1
unfolding ended answer
ended_ordered w n c t false = no_order no_records
ended_ordered w n c t true = parts_ordered w _ c t _

pub piece_ordered : (w : Table) (n : Node) (c : ℕ) (bs : List ℕ) (t : ℕ) → Ordered w (piece_effect w n c bs t).next.values (piece_effect w n c bs t).records
unfolding piece_effect
piece_ordered w n c bs t = ended_ordered w _ c t (has_feed bs)

-- ## As the bytes tell it

pub order_one : (c k : ℕ) (v : List ℕ) (rs : List Record) (more : List ℕ) → order_in (encode_all (order_change c k v ∷ rs) ++ more) ≡ Some k
unfolding order_in encode_all encode mark client body two_bytes bytes head
order_one c k v rs more = refl

pub order_none : (rs : List Record) (more : List ℕ) → NoOrders rs → (length (encode_all rs) ≡ 0 → ⊥) → order_in (encode_all rs ++ more) ≡ None
unfolding order_in encode_all encode mark bytes head orders_of
order_none [] more h n = absurd (n refl)
order_none (final c r ∷ rs) more h n = refl
order_none (update c r ∷ rs) more h n = refl
order_none (order_change c p v ∷ rs) more h n =
    let z : suc (length (orders_of p rs)) ≡ 0 = sym (ap length (ap (λ (t : Bool). cond t (v ∷ []) [] ++ orders_of p rs) (eq-eqb p p refl))) ∙ ap length (h p) in
    absurd (omega arith)
order_none (order_command c p v ∷ rs) more h n = refl

pub order_long : (c k : ℕ) (v : List ℕ) (rs : List Record) → eqb (length (encode_all (order_change c k v ∷ rs))) 0 ≡ false
unfolding encode_all encode mark client body bytes
order_long c k v rs = no_zero (length (82 ∷ (c ∷ two_bytes (length (k ∷ v))) ++ (k ∷ v) ++ encode_all rs))
  where
    no_zero : (n : ℕ) → eqb (suc n) 0 ≡ false
    no_zero n = ne_eqb (suc n) 0 (λ z. omega arith)

pub orders_same : (c k : ℕ) (v : List ℕ) (rs : List Record) → NoOrders rs → orders_of k (order_change c k v ∷ rs) ≡ v ∷ []
unfolding orders_of
orders_same c k v rs h = ap₂ (λ (t : Bool) (l : List (List ℕ)). cond t (v ∷ []) [] ++ l) (eq-eqb k k refl) (h k)

pub orders_other : (c k : ℕ) (v : List ℕ) (rs : List Record) → NoOrders rs → (j : ℕ) → (j ≡ k → ⊥) → orders_of j (order_change c k v ∷ rs) ≡ []
unfolding orders_of
orders_other c k v rs h j n = ap₂ (λ (t : Bool) (l : List (List ℕ)). cond t (v ∷ []) [] ++ l) (ne_eqb j k n) (h j)
