-- The user's rule: updates, settings, activations and errors. Assumes nothing.
use Rattle.std.specs.Prelude.{Option, Some, None, slice_get}
use Prim.Native.Nat.{ℕ, zero, suc, ◌+◌}
use mathlib.Core.Bool.{Bool, true, false, cond, not, ◌&&◌, ◌||◌, true≢false, or-true}
use mathlib.Core.List.Memᴰ
use mathlib.Core.List.{List, [], ◌∷◌, ◌++◌, append-nil, Memᴰ}
use mathlib.Core.Logic.{◌⊎◌, inl, inr, ⊎_elim}
use mathlib.Core.Path.{◌≡◌, refl, sym, ◌∙◌, ap, ap₂, subst}
use lib.Dec.{eqb, ltb}
use lib.ListN.{length}
use native.Mathlib.Omega.{arith}
use borrow.Author.Tests.{lt-ltb, ne_eqb, eq-eqb, eqb-true}
use Rattle.fit.specs.Fit.{stored_form}
use Rattle.table.specs.Table.{Parameter, Table}
use Rattle.table.specs.Search.{Placed, parameters}
use Rattle.table.proofs.Search.{parameter_home}
use Rattle.message.specs.Line.{Parts}
use Rattle.message.specs.Request.{Request, change}
use Rattle.message.specs.Reply.{valued, failed, DataReport, Reply, active, inactive, changed, error}
use Rattle.outbox.specs.Outbox.{Record, final, update, order_change, order_command}
use Rattle.plain.specs.Node.{counting, Client, closed, fresh, Value, Node, put, with_value, is_open, is_active, receive, emptied, activated, report_of, client_numbers, updates_to, holding, showing, Setting, with_settings}
use Rattle.plain.specs.Answer.{Outcome, denied, carried, stored_at, outcome, activates, deactivates, sets, busy, status_of, busy_settings, busy_updates}
use Rattle.plain.specs.Calls.{Event, Piece, Reading, Unreadable, Answer, before_feed}
use Rattle.plain.specs.History.{step}
use Rattle.plain.proofs.Put.{put_at, put_other, put_all}
use Rattle.plain.proofs.Busy.{IsStatus, status_is, status_other, set_more}
use Rattle.plain.proofs.Clients.{active_open, receive_active, emptied_open, emptied_active, activated_active}
use Rattle.plain.proofs.Outcomes.{node_after, before, reply_to, Tells, by_identify, by_describe, by_ping, by_read, by_count, LetIn, outcome_holds, by_check}
use Rattle.rule.specs.Records.{updates_for, replies_for, in_scope_of, reports_of, active_by, active_after}
use Rattle.rule.specs.Theorems.{parts_at, request_of, ToActive, UpdatesGoToActiveClients, Set, ReadingSets, ReadingsAreSentToAll, UnreadableSets, UnreadablesAreSentToAll, Changed, ChangeSets, OfPiece, of_piece, ChangesAreSentToAll, BySetting, by_reading, by_unreadable, by_change, ValuesAlterBySettings, InitialUpdates, ActivationsSendAll, ActivationsAreOnesOwn, AltersNothing, ErrorsAlterNothing}
use Rattle.rule.proofs.Laws.{updates_append, replies_append, no_final_replies, updates_to_member, updates_of_member, updates_of_for, sent_once, sent_never}
use Rattle.rule.proofs.Laws.{busy_once, busy_never}
use Rattle.rule.proofs.Told.{kind, apart, told_kind, scope_is}
use Rattle.rule.proofs.Calls.{quiet, idle, told_node, outcome_at, Answered, Did, opened, shut, received, read, unread, line, every_call, accepted_call, Line-of, line_of_lem, line_of_final, refusals_alter_nothing}

-- ## Errors

abbrev NoError : Outcome → Type 0
NoError (denied x) = Unit {0}
NoError (carried m ss rs r) = kind r ≡ 0 → ⊥

no_error : (w : Table) (n : Node) (c now : ℕ) (r : Request) → NoError (outcome w n c now r)
unfolding activates deactivates sets
no_error w n c now =
    outcome_holds (λ q o. NoError o) w n c now
    (record {
      bad = λ q x. tt;
      failing = λ k f t h e. tt;
      telling = λ q r h e. omega (arith, told_kind h);
      activating = λ m f h e. omega arith;
      deactivating = λ m f h e. omega arith;
      setting = λ k v h e. omega arith;
      doing = λ k v h e. omega arith;
    })

altered : (n m : Node) (rs : List Record) (c : ℕ) (p : Parts) (o : Outcome) (r : Reply) → kind r ≡ 0 → NoError o
    → m ≡ counting (node_after (idle n c) o) rs → rs ≡ before o ++ (final c (reply_to p o) ∷ []) → r ≡ reply_to p o → AltersNothing n m rs c r
altered n m rs c p (denied x) r i h e f g =
    record {
      alone = f ∙ ap (λ y. final c y ∷ []) (sym g);
      values = ap (λ (y : Node). y.values) e;
      clients = ap (λ (y : Node). y.clients) e;
      counts = ap (λ (y : Node). y.counts) e;
    }
altered n m rs c p (carried y ss l q) r i h e f g = absurd (h (ap kind (sym g) ∙ i))

altered_line : {w : Table} {n m : Node} {rs : List Record} {c : ℕ} {r : Reply} {e : Event} → Line-of w n m rs c r e → kind r ≡ 0
    → AltersNothing n m rs c r
altered_line {w} {n} {m} {rs} {c} {r} (line_of_lem {bs = bs} {t = t} h q) i =
    altered n m rs c (parts_at n c bs) (outcome_at w n c bs t) r i (no_error w (idle n c) c t (request_of n c bs)) h.node h.records q

pub errors_alter_nothing : ErrorsAlterNothing
errors_alter_nothing table n e c a s x l = altered_line (line_of_final table n e c (error a s x) l) refl

-- ## Settings

-- a setting of parameter k, which is p, to v sends its update to all that have its module active; other records are around
set_sent : (w : Table) (n m : Node) (k : ℕ) (p : Placed Parameter) (v : Value) (rs : List Record)
    → slice_get (parameters w) k ≡ Some p → m.values ≡ put n.values k v
    → ((d : ℕ) → updates_for d rs ≡ updates_for d (updates_to m.clients p.home (report_of p v) client_numbers))
    → Set w n m k p v rs
set_sent w n m k p v rs t e u =
    record {
      there = t;
      values = e;
      updates = λ d h. u d ∙ sent_once m.clients p.home (report_of p v) d h;
      nobody = λ d h. u d ∙ sent_never m.clients p.home (report_of p v) d h;
    }

reading_sets : {w : Table} {n : Node} {k : ℕ} {bs : List ℕ} {t : ℕ} {m : Node} {rs : List Record} → Did w n (Reading k bs t) m rs
    → ReadingSets w n m k bs t rs
reading_sets {w} {n} {k} {bs} {t} (read p q f) =
    let v : Value = showing (stored_form p.it.datainfo bs) t in
    record {
      p = p;
      fitting = f;
      set = set_sent w n (told_node n k p v) k p v _ q refl (λ d. refl);
      records = refl;
    }

unreadable_sets : {w : Table} {n : Node} {k class t : ℕ} {m : Node} {rs : List Record} → Did w n (Unreadable k class t) m rs → UnreadableSets w n m k class t rs
unreadable_sets {w} {n} {k = k} {t = t} (unread p f q i) =
    let v : Value = holding (failed f) t in
    record {
      p = p;
      f = f;
      known = i;
      set = set_sent w n (told_node n k p v) k p v _ q refl (λ d. refl);
      records = refl;
    }

pub unreadables_are_sent_to_all : UnreadablesAreSentToAll
unreadables_are_sent_to_all table n k class t l h = unreadable_sets (accepted_call table n (record { event = Unreadable k class t; lent = l }) h)

pub readings_are_sent_to_all : ReadingsAreSentToAll
readings_are_sent_to_all table n k bs t l h = reading_sets (accepted_call table n (record { event = Reading k bs t; lent = l }) h)

-- what is known of an outcome whose reply is `changed`
record Changing (w : Table) (n : Node) (c now : ℕ) (q : Request) (o : Outcome) (r : DataReport) : Type 0 where
  k : ℕ × Placed Parameter
  v : List ℕ
  asked : q ≡ change k.1.module_name k.1.it.name v
  let_in_lem : LetIn w n.values k v
  tells : r ≡ report_of k.1 (showing (stored_at n.values k v) now)
  is : o ≡ sets w n c now k (stored_at n.values k v)

changed_is : (x y : DataReport) → changed x ≡ changed y → x ≡ y
changed_is x y e = cc

sets_reply : (w : Table) (n : Node) (c now : ℕ) (p : Parts) (k : ℕ × Placed Parameter) (v : List ℕ)
    → reply_to p (sets w n c now k v) ≡ changed (report_of k.1 (showing v now))
unfolding sets
sets_reply w n c now p k v = refl

abbrev Changes : Table → Node → ℕ → ℕ → Parts → Request → Outcome → Type 0
Changes w n c now p q o = (r : DataReport) → changed r ≡ reply_to p o → Changing w n c now q o r

changing : (w : Table) (n : Node) (c now : ℕ) (p : Parts) (q : Request) → Changes w n c now p q (outcome w n c now q)
unfolding activates deactivates
changing w n c now p =
    outcome_holds (Changes w n c now p) w n c now
    (record {
      bad = λ q x r e. apart (changed r) _ (λ z. omega arith) e;
      failing = λ k f t h i r e. apart (changed r) _ (λ z. omega arith) e;
      telling = λ q x h r e. apart (changed r) x (λ z. omega (arith, told_kind h)) e;
      activating = λ m f h r e. apart (changed r) _ (λ z. omega arith) e;
      deactivating = λ m f h r e. apart (changed r) _ (λ z. omega arith) e;
      setting = λ k v h r e. record { k = k; v = v; asked = refl; let_in_lem = h; tells = set_tells k v r e; is = refl };
      doing = λ k v h r e. apart (changed r) _ (λ z. omega arith) e;
    })
  where
    set_tells : (k : ℕ × Placed Parameter) (v : List ℕ) (r : DataReport) → changed r ≡ reply_to p (sets w n c now k (stored_at n.values k v))
        → r ≡ report_of k.1 (showing (stored_at n.values k v) now)
    set_tells k v r e = changed_is r _ (e ∙ sets_reply w n c now p k (stored_at n.values k v))

no_updates : (d : ℕ) (rs : List Record) (c : ℕ) (r : Reply) → updates_for d (rs ++ (final c r ∷ [])) ≡ updates_for d rs
unfolding updates_for
no_updates d rs c r = updates_append d rs (final c r ∷ []) ∙ append-nil (updates_for d rs)

-- a line that came to the setting of parameter k to the text v, put together at the node that it was carried out on
module _ (w : Table) (n m : Node) (c t : ℕ) (k : ℕ × Placed Parameter) (v : List ℕ) (rs : List Record)
    (there : slice_get (parameters w) k.0 ≡ Some k.1) where
  abbrev value : Value
  value = showing v t

  abbrev first : List Setting
  first = busy_settings (status_of w k.1) t

  -- the updates to these clients: of the status, and of the parameter
  abbrev busied : (ℕ → Client) → List Record
  busied f = busy_updates f (status_of w k.1) t

  abbrev updates : (ℕ → Client) → List Record
  updates f = updates_to f k.1.home (report_of k.1 value) client_numbers

  abbrev finally : List Record
  finally = final c (changed (report_of k.1 value)) ∷ []

  module _ (node : m ≡ counting (with_settings (idle n c) (first ++ (record { parameter = k.0; held = valued v; time = t } ∷ []))) rs)
      (records : rs ≡ order_change c k.0 v ∷ ((busied (idle n c).clients ++ updates (idle n c).clients) ++ finally)) where
    clients_are : m.clients ≡ (idle n c).clients
    clients_are = ap (λ (x : Node). x.clients) node

    records_are : rs ≡ order_change c k.0 v ∷ ((busied m.clients ++ updates m.clients) ++ finally)
    records_are = records ∙ ap (λ f. order_change c k.0 v ∷ ((busied f ++ updates f) ++ finally)) (sym clients_are)

    sent_updates : (d : ℕ) → updates_for d rs ≡ updates_for d (busied m.clients) ++ updates_for d (updates m.clients)
    unfolding updates_for
    sent_updates d =
        ap (updates_for d) records_are
        ∙ no_updates d (busied m.clients ++ updates m.clients) c (changed (report_of k.1 value))
        ∙ updates_append d (busied m.clients) (updates m.clients)

    was_changed : Changed w n m c k.0 k.1 v t rs
    was_changed =
        record {
          there = there;
          values = ap (λ (x : Node). x.values) node ∙ set_more n.values first _;
          updates = λ d h.
              sent_updates d
              ∙ ap₂ ◌++◌ (busy_once m.clients (status_of w k.1) t d h) (sent_once m.clients k.1.home (report_of k.1 value) d h);
          nobody = λ d h.
              sent_updates d
              ∙ ap₂ ◌++◌ (busy_never m.clients (status_of w k.1) t d h) (sent_never m.clients k.1.home (report_of k.1 value) d h);
          records = records_are;
        }

  pub answered_change : (bs : List ℕ) → Answered w n c bs t m rs → outcome_at w n c bs t ≡ sets w (idle n c) c t k v
      → Changed w n m c k.0 k.1 v t rs
  unfolding sets
  answered_change bs h e =
      was_changed
      (h.node ∙ ap (λ o. counting (node_after (idle n c) o) rs) e)
      (h.records ∙ ap (λ o. before o ++ (final c (reply_to (parts_at n c bs) o) ∷ [])) e)

changed_line : {w : Table} {n m : Node} {rs : List Record} {c : ℕ} (r : DataReport) {e : Event} → Line-of w n m rs c (changed r) e
    → OfPiece c (λ bs t. ChangeSets w n m c bs t r rs) e
changed_line {w} {n} {m} {rs} {c} r (line_of_lem {bs = bs} {t = t} h q) =
    let g = changing w (idle n c) c t (parts_at n c bs) (request_of n c bs) r q in
    of_piece
    (record {
      k = g.k.0;
      p = g.k.1;
      offered = g.v;
      asked = g.asked;
      writable = g.let_in_lem.writable;
      fitting = g.let_in_lem.fitting;
      tells = g.tells;
      changed = answered_change w n m c t g.k (stored_at n.values g.k g.v) rs g.let_in_lem.there bs h g.is;
    })

pub changes_are_sent_to_all : ChangesAreSentToAll
changes_are_sent_to_all table n e c r l = changed_line r (line_of_final table n e c (changed r) l)

-- ## Values

abbrev Alters : Node → Parts → Outcome → Type 0
Alters n p o = ((node_after n o).values ≡ n.values) ⊎ ((r : DataReport) × (reply_to p o ≡ changed r))

alters : (w : Table) (n : Node) (c now : ℕ) (p : Parts) (q : Request) → Alters n p (outcome w n c now q)
unfolding activates deactivates
alters w n c now p =
    outcome_holds (λ q o. Alters n p o) w n c now
    (record {
      bad = λ q x. inl refl;
      failing = λ k f t h e. inl refl;
      telling = λ q f h. inl refl;
      activating = λ m f h. inl refl;
      deactivating = λ m f h. inl refl;
      setting = λ k v h. inr (report_of k.1 (showing (stored_at n.values k v) now), sets_reply w n c now p k (stored_at n.values k v));
      doing = λ k v h. inl refl;
    })

line_alters : (w : Table) (n m : Node) (c : ℕ) (bs : List ℕ) (t : ℕ) (x : Answer) → Answered w n c bs t m x.records
    → (m.values ≡ n.values) ⊎ BySetting (Piece c bs t) x
line_alters w n m c bs t x h =
    let y : Outcome = outcome_at w n c bs t in
    ⊎_elim
    (λ e. inl (ap (λ (z : Node). z.values) h.node ∙ e))
    (λ e.
    inr
    (by_change c e.0
    (subst
    (Memᴰ (final c (changed e.0)))
    (sym h.records)
    (Memᴰ.append_right (before y) (Memᴰ.head (ap (final c) (sym e.1)))))))
    (alters w (idle n c) c t (parts_at n c bs) (request_of n c bs))

did_alter : {w : Table} {n m : Node} {e : Event} (x : Answer) → x.number ≡ 0 → (rs : List Record) → x.records ≡ rs → Did w n e m rs
    → (m.values ≡ n.values) ⊎ BySetting e x
did_alter x z rs q opened = inl refl
did_alter x z rs q shut = inl refl
did_alter x z rs q (received f) = inl refl
did_alter x z rs q (read p f g) = inr (by_reading z)
did_alter x z rs q (unread p f g h) = inr (by_unreadable z)
did_alter {w} {n} {m} x z rs q (line {c = c} {bs = bs} {t = t} f h) =
    line_alters w n m c bs t x (subst (Answered w n c bs t m) (sym q) h)

pub values_alter_by_settings : ValuesAlterBySettings
values_alter_by_settings table n e = go (step table n e).1.number refl
  where
    go : (j : ℕ) → (step table n e).1.number ≡ j → ((step table n e).0.values ≡ n.values) ⊎ BySetting e.event (step table n e).1
    go zero z = did_alter (step table n e).1 z (step table n e).1.records refl (accepted_call table n e z)
    go (suc j) z = inl (ap (λ (x : Node). x.values) (refusals_alter_nothing table n e j z).node)

-- ## Activations

abbrev Activation : Table → Node → ℕ → Parts → Outcome → Type 0
Activation w n c p o = (m : Option (List ℕ)) → active m ≡ reply_to p o
    → (d : ℕ) → updates_for d (before o) ≡ cond (eqb d c) (reports_of (in_scope_of w m) n.values 0 (parameters w)) []

active_is : (x y : Option (List ℕ)) → active x ≡ active y → x ≡ y
active_is x y e = cc

activation : (w : Table) (n : Node) (c now : ℕ) (p : Parts) (q : Request) → Activation w n c p (outcome w n c now q)
unfolding activates deactivates sets
activation w n c now p =
    outcome_holds (λ q o. Activation w n c p o) w n c now
    (record {
      bad = λ q x m e. apart (active m) _ (λ z. omega arith) e;
      failing = λ k f t h i m e. apart (active m) _ (λ z. omega arith) e;
      telling = λ q x h m e. apart (active m) x (λ z. omega (arith, told_kind h)) e;
      activating = λ x f h m e d.
          updates_of_for c f n.values (parameters w) 0 d
          ∙ ap (λ g. cond (eqb d c) (reports_of g n.values 0 (parameters w)) []) (scope_is h ∙ ap (in_scope_of w) (sym (active_is m x e)));
      deactivating = λ x f h m e. apart (active m) _ (λ z. omega arith) e;
      setting = λ k v h m e. apart (active m) _ (λ z. omega arith) e;
      doing = λ k v h m e. apart (active m) _ (λ z. omega arith) e;
    })

initial_updates : {w : Table} {n k : Node} {rs : List Record} {c : ℕ} (m : Option (List ℕ)) {e : Event}
    → Line-of w n k rs c (active m) e → InitialUpdates w n c m rs
initial_updates {w} {n} {k} {rs} {c} m (line_of_lem {bs = bs} {t = t} h q) =
    let o : Outcome = outcome_at w n c bs t in
    let u : (d : ℕ) → updates_for d rs ≡ cond (eqb d c) (reports_of (in_scope_of w m) n.values 0 (parameters w)) [] =
    λ d.
    ap (updates_for d) h.records
    ∙ no_updates d (before o) c (reply_to (parts_at n c bs) o)
    ∙ activation w (idle n c) c t (parts_at n c bs) (request_of n c bs) m q d in
    record {
      own = u c ∙ ap (λ b. cond b (reports_of (in_scope_of w m) n.values 0 (parameters w)) []) (eq-eqb c c refl);
      others = λ d g. u d ∙ ap (λ b. cond b (reports_of (in_scope_of w m) n.values 0 (parameters w)) []) (ne_eqb d c g);
    }

pub activations_send_all : ActivationsSendAll
activations_send_all table n e c m l = initial_updates m (line_of_final table n e c (active m) l)

-- what a line leaves active, of each client
abbrev LeavesActive : Table → Node → ℕ → Parts → Outcome → Type 0
LeavesActive w n c p o = (d i : ℕ)
    → is_active ((node_after n o).clients d) i ≡ cond (eqb d c) (active_by w i (is_active (n.clients d) i) (reply_to p o ∷ [])) (is_active (n.clients d) i)

-- a choice between the same
either : (q b : Bool) → b ≡ cond q b b
either true b = refl
either false b = refl

-- of a client that was given other active modules
given_active : (w : Table) (n : Node) (c : ℕ) (f : ℕ → Bool) (r : Reply) → is_open (n.clients c) ≡ true
    → ((i : ℕ) → f i ≡ active_by w i (is_active (n.clients c) i) (r ∷ [])) → (d i : ℕ)
    → is_active (put n.clients c (activated f (n.clients c)) d) i
    ≡ cond (eqb d c) (active_by w i (is_active (n.clients d) i) (r ∷ [])) (is_active (n.clients d) i)
unfolding put
given_active w n c f r o h d i = go (eqb d c) refl
  where
    go : (q : Bool) → eqb d c ≡ q
        → is_active (cond q (activated f (n.clients c)) (n.clients d)) i
        ≡ cond q (active_by w i (is_active (n.clients d) i) (r ∷ [])) (is_active (n.clients d) i)
    go true e =
        activated_active f (n.clients c) i o
        ∙ h i
        ∙ ap (λ x. active_by w i (is_active (n.clients x) i) (r ∷ [])) (sym (eqb-true d c e))
    go false e = refl

told_active : {w : Table} {n : Node} {c now : ℕ} {q : Request} {r : Reply} → Tells w n c now q r → (i : ℕ) (b : Bool)
    → active_by w i b (r ∷ []) ≡ b
unfolding active_by
told_active by_identify i b = refl
told_active by_describe i b = refl
told_active by_ping i b = refl
told_active (by_read k e v t j) i b = refl
told_active (by_check k v l e) i b = refl
told_active by_count i b = refl

leaves_active : (w : Table) (n : Node) (c now : ℕ) (p : Parts) → is_open (n.clients c) ≡ true → (q : Request)
    → LeavesActive w n c p (outcome w n c now q)
unfolding activates deactivates sets active_by
leaves_active w n c now p o =
    outcome_holds (λ q x. LeavesActive w n c p x) w n c now
    (record {
      bad = λ q x d i. either (eqb d c) (is_active (n.clients d) i);
      failing = λ k f t h e d i. either (eqb d c) (is_active (n.clients d) i);
      telling = λ q r h d i.
          either (eqb d c) (is_active (n.clients d) i)
          ∙ ap (λ b. cond (eqb d c) b (is_active (n.clients d) i)) (sym (told_active h i (is_active (n.clients d) i)));
      activating = λ m f h. given_active w n c _ (active m) o
          (λ i. ap (λ g. is_active (n.clients c) i || (ltb i (length w.modules) && g i)) (scope_is h));
      deactivating = λ m f h. given_active w n c _ (inactive m) o (λ i. ap (λ g. is_active (n.clients c) i && not (g i)) (scope_is h));
      setting = λ k v h d i. either (eqb d c) (is_active (n.clients d) i);
      doing = λ k v h d i. either (eqb d c) (is_active (n.clients d) i);
    })

idle_active : (n : Node) (c d i : ℕ) → is_active ((idle n c).clients d) i ≡ is_active (n.clients d) i
idle_active n c d i =
    put_all
    (λ j x. is_active x i ≡ is_active (n.clients j) i)
    n.clients
    c
    (emptied (n.clients c))
    (emptied_active (n.clients c) i)
    (λ j. refl)
    d

line_replies : (d : ℕ) (w : Table) (n m : Node) (c : ℕ) (bs : List ℕ) (t : ℕ) (rs : List Record) → Answered w n c bs t m rs
    → replies_for d rs ≡ cond (eqb d c) (reply_to (parts_at n c bs) (outcome_at w n c bs t) ∷ []) []
unfolding replies_for
line_replies d w n m c bs t rs h =
    let o : Outcome = outcome_at w n c bs t in
    let r : Reply = reply_to (parts_at n c bs) o in
    ap (replies_for d) h.records
    ∙ replies_append d (before o) (final c r ∷ [])
    ∙ ap (◌++ replies_for d (final c r ∷ [])) (no_final_replies d (before o) (quiet w (idle n c) c t (request_of n c bs)))
    ∙ append-nil (cond (eqb d c) (r ∷ []) [])

line_own : (w : Table) (n m : Node) (c : ℕ) (bs : List ℕ) (t : ℕ) (rs : List Record) → Answered w n c bs t m rs → (d i : ℕ)
    → is_active (m.clients d) i ≡ active_by w i (is_active (n.clients d) i) (replies_for d rs)
unfolding active_by
line_own w n m c bs t rs h d i =
    let r : Reply = reply_to (parts_at n c bs) (outcome_at w n c bs t) in
    let o : is_open ((idle n c).clients c) ≡ true =
    ap is_open (put_at n.clients c (emptied (n.clients c))) ∙ emptied_open (n.clients c) ∙ h.is_open in
    ap (λ (x : Node). is_active (x.clients d) i) h.node
    ∙ leaves_active w (idle n c) c t (parts_at n c bs) o (request_of n c bs) d i
    ∙ ap (λ b. cond (eqb d c) (active_by w i b (r ∷ [])) b) (idle_active n c d i)
    ∙ go (eqb d c)
    ∙ ap (active_by w i (is_active (n.clients d) i)) (sym (line_replies d w n m c bs t rs h))
  where
    go : (q : Bool)
        → cond q (active_by w i (is_active (n.clients d) i) (reply_to (parts_at n c bs) (outcome_at w n c bs t) ∷ [])) (is_active (n.clients d) i)
        ≡ active_by w i (is_active (n.clients d) i) (cond q (reply_to (parts_at n c bs) (outcome_at w n c bs t) ∷ []) [])
    go true = refl
    go false = refl

-- a client in whose place stands one with nothing active
none_active : (n : Node) (c : ℕ) (x : Client) → ((i : ℕ) → is_active x i ≡ false) → (d i : ℕ)
    → is_active (put n.clients c x d) i ≡ cond (eqb d c) false (is_active (n.clients d) i)
unfolding put
none_active n c x h d i = go (eqb d c)
  where
    go : (q : Bool) → is_active (cond q x (n.clients d)) i ≡ cond q false (is_active (n.clients d) i)
    go true = h i
    go false = refl

ones_own : {w : Table} {n m : Node} {e : Event} {rs : List Record} → Did w n e m rs → (d i : ℕ)
    → is_active (m.clients d) i ≡ active_after w d i (is_active (n.clients d) i) e rs
unfolding active_after active_by replies_for is_active
ones_own {n = n} (opened {c = c}) d i = none_active n c fresh (λ j. refl) d i
ones_own {n = n} (shut {c = c}) d i = none_active n c closed (λ j. refl) d i
ones_own {n = n} (received {c = c} {bs = bs} f) d i =
    put_all
    (λ j x. is_active x i ≡ is_active (n.clients j) i)
    n.clients
    c
    (receive (n.clients c) (before_feed bs))
    (receive_active (n.clients c) (before_feed bs) i)
    (λ j. refl)
    d
ones_own (read p q f) d i = refl
ones_own (unread p f q j) d i = refl
ones_own {w} {n} (line {c = c} {bs = bs} {t = t} {m = m} {rs = rs} f h) d i = line_own w n m c bs t rs h d i

pub activations_are_ones_own : ActivationsAreOnesOwn
activations_are_ones_own table n e z d i = ones_own (accepted_call table n e z) d i

-- ## Updates

abbrev is_update : Record → Bool
is_update (final c r) = false
is_update (update c r) = true
is_update (order_change c p v) = false
is_update (order_command c p v) = false

pub not_update : (d : ℕ) (r : DataReport) (x : Record) → is_update x ≡ false → update d r ≡ x → ⊥
not_update d r x h e = true≢false (ap is_update e ∙ h)

-- each update before a reply goes to a client that has its module active
abbrev ToActives : Table → Node → Outcome → Type 0
ToActives w n o = (d : ℕ) (r : DataReport) → Memᴰ (update d r) (before o) → ToActive w (node_after n o) d r

to_active : (w : Table) (m : Node) (k : ℕ) (p : Placed Parameter) (d : ℕ) (r : DataReport) → slice_get (parameters w) k ≡ Some p
    → r ≡ report_of p (m.values k) → is_active (m.clients d) p.home ≡ true → ToActive w m d r
to_active w m k p d r t e h =
    record { k = k; p = p; there = t; tells = e; is_active = h; is_open = active_open (m.clients d) p.home h }

-- what is counted makes no difference
still_active : (w : Table) (m : Node) (rs : List Record) (d : ℕ) (r : DataReport) → ToActive w m d r → ToActive w (counting m rs) d r
still_active w m rs d r h = to_active w (counting m rs) h.k h.p d r h.there h.tells h.is_active

-- of a setting
set_active : (w : Table) (n : Node) (k : ℕ) (p : Placed Parameter) (x : Value) → slice_get (parameters w) k ≡ Some p → (d : ℕ) (r : DataReport)
    → Memᴰ (update d r) (updates_to n.clients p.home (report_of p x) client_numbers) → ToActive w (with_value n k x) d r
set_active w n k p x t d r l =
    let h = updates_to_member n.clients p.home (report_of p x) client_numbers d r l in
    to_active w (with_value n k x) k p d r t (h.0 ∙ ap (report_of p) (sym (put_at n.values k x))) h.1

-- of a change, with the status that it sets first
sets_active : (w : Table) (n : Node) (now : ℕ) (k : ℕ × Placed Parameter) (v : List ℕ) → slice_get (parameters w) k.0 ≡ Some k.1
    → (o : Option (ℕ × Placed Parameter)) → status_of w k.1 ≡ o → (d : ℕ) (r : DataReport)
    → Memᴰ (update d r) (busy_updates n.clients o now ++ updates_to n.clients k.1.home (report_of k.1 (showing v now)) client_numbers)
    → ToActive w (with_settings n (busy_settings o now ++ (record { parameter = k.0; held = valued v; time = now } ∷ []))) d r
unfolding busy_updates busy_settings
sets_active w n now k v h None e d r l = set_active w n k.0 k.1 (showing v now) h d r l
sets_active w n now k v h (Some s) e d r l =
    let i = status_is w k.1 s e in
    let m : Node = with_value n s.0 (showing busy now) in
    ⊎_elim
    (λ x.
    let a = updates_to_member n.clients s.1.home (report_of s.1 (showing busy now)) client_numbers d r x in
    to_active w (with_value m k.0 (showing v now)) s.0 s.1 d r i.there (a.0 ∙ ap (report_of s.1) (sym (held_first i))) a.1)
    (λ x. set_active w m k.0 k.1 (showing v now) h d r x)
    (Memᴰ.append_cases _ l)
  where
    held_first : IsStatus w k.1 s → put (put n.values s.0 (showing busy now)) k.0 (showing v now) s.0 ≡ showing busy now
    held_first i =
        put_other (put n.values s.0 (showing busy now)) k.0 (showing v now) s.0 (status_other w k.1 s i k.0 h)
        ∙ put_at n.values s.0 (showing busy now)

-- of an activation's initial updates
first_active : (w : Table) (n : Node) (c now : ℕ) → is_open (n.clients c) ≡ true → (m : Option (List ℕ)) (wanted : ℕ → Bool)
    → ToActives w n (activates w n c now wanted m)
unfolding activates
first_active w n c now o m wanted d r l =
    let h = updates_of_member c wanted n.values (parameters w) 0 d r l in
    let g = h.1 in
    let z : 0 + g.i ≡ g.i = omega arith in
    let x : Node = node_after n (activates w n c now wanted m) in
    let a : is_active (x.clients c) g.p.home ≡ true =
    ap (λ y. is_active y g.p.home) (put_at n.clients c _)
    ∙ activated_active _ (n.clients c) g.p.home o
    ∙ rw
    (lt-ltb g.p.home (length w.modules) (parameter_home w g.i g.p g.there), g.asked)
    (or-true (is_active (n.clients c) g.p.home)) in
    subst
    (λ y. ToActive w x y r)
    (sym h.0)
    (to_active w x g.i g.p c r g.there (g.truly ∙ ap (λ j. report_of g.p (n.values j)) z) a)

to_actives : (w : Table) (n : Node) (c now : ℕ) → is_open (n.clients c) ≡ true → (q : Request) → ToActives w n (outcome w n c now q)
unfolding deactivates sets
to_actives w n c now o =
    outcome_holds (λ q x. ToActives w n x) w n c now
    (record {
      bad = λ q x d r l. absurd (Memᴰ.not-nil l);
      failing = λ k f t h e d r l. absurd (Memᴰ.not-nil l);
      telling = λ q f h d r l. absurd (Memᴰ.not-nil l);
      activating = λ m f h. first_active w n c now o m f;
      deactivating = λ m f h d r l. absurd (Memᴰ.not-nil l);
      setting = λ k v h d r l.
          ⊎_elim
          (λ e. absurd (not_update d r (order_change c k.0 (stored_at n.values k v)) refl e))
          (λ m. sets_active w n now k (stored_at n.values k v) h.there (status_of w k.1) refl d r m)
          (Memᴰ.cases_cons l);
      doing = λ k v h d r l. absurd (not_update d r _ refl (Memᴰ.eq_of_singleton l));
    })

line_active : (w : Table) (n m : Node) (c : ℕ) (bs : List ℕ) (t : ℕ) (rs : List Record) → Answered w n c bs t m rs → (d : ℕ) (r : DataReport)
    → Memᴰ (update d r) rs → ToActive w m d r
line_active w n m c bs t rs h d r k =
    let o : Outcome = outcome_at w n c bs t in
    let a : is_open ((idle n c).clients c) ≡ true =
    ap is_open (put_at n.clients c (emptied (n.clients c))) ∙ emptied_open (n.clients c) ∙ h.is_open in
    ⊎_elim
    (λ i. subst (λ x. ToActive w x d r) (sym h.node) (still_active w _ rs d r (to_actives w (idle n c) c t a (request_of n c bs) d r i)))
    (λ i. absurd (not_update d r (final c (reply_to (parts_at n c bs) o)) refl (Memᴰ.eq_of_singleton i)))
    (Memᴰ.append_cases (before o) (subst (Memᴰ (update d r)) h.records k))

did_active : {w : Table} {n m : Node} {e : Event} {rs : List Record} → Did w n e m rs → (d : ℕ) (r : DataReport)
    → Memᴰ (update d r) rs → ToActive w m d r
did_active opened d r k = absurd (Memᴰ.not-nil k)
did_active shut d r k = absurd (Memᴰ.not-nil k)
did_active (received f) d r k = absurd (Memᴰ.not-nil k)
did_active {w} {n} (read {k = i} {bs = bs} {t = t} p q f) d r k =
    still_active w _ _ d r (set_active w n i p (showing (stored_form p.it.datainfo bs) t) q d r k)
did_active {w} {n} (unread {k = i} {t = t} p f q j) d r k = still_active w _ _ d r (set_active w n i p (holding (failed f) t) q d r k)
did_active {w} {n} (line {c = c} {bs = bs} {t = t} {m = m} {rs = rs} f h) d r k = line_active w n m c bs t rs h d r k

pub updates_go_to_active_clients : UpdatesGoToActiveClients
updates_go_to_active_clients table n e d r l =
    ⊎_elim
    (λ h. absurd (Memᴰ.not-nil (subst (Memᴰ (update d r)) h.records l)))
    (λ h. did_active h d r l)
    (every_call table n e)
