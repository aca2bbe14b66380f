-- Carrying out a line looks at no client's unfinished line, changes none, and opens or closes nobody. Assumes nothing.
use Rattle.std.specs.Prelude.{Option, Some, None}
use Prim.Native.Nat.{ℕ}
use mathlib.Core.Bool.{Bool, true, false, cond, not, ◌&&◌, ◌||◌}
use mathlib.Core.List.{List, [], ◌∷◌, ◌++◌}
use mathlib.Core.Path.{◌≡◌, refl, ◌∙◌, ap, ap₂, fun_ext}
use lib.Dec.{eqb, ltb}
use lib.ListN.{length}
use Rattle.ascii.specs.Bytes.{count}
use Rattle.table.specs.Table.{Parameter, Table}
use Rattle.table.specs.Search.{Placed, parameters}
use Rattle.message.specs.Line.{Line, whole, Parts}
use Rattle.message.specs.Request.{Request, request}
use Rattle.message.specs.Reply.{valued, DataReport, Reply, active, inactive, changed}
use Rattle.outbox.specs.Outbox.{Record, order_change}
use Rattle.plain.specs.Node.{Client, closed, connected, Node, put, with_client, Setting, setting_value, with_settings, is_open, is_active, activated, report_of, client_numbers, updates_to, updates_of, with_clients, below, active_count}
use Rattle.plain.specs.Answer.{Outcome, denied, carried, settings_of, status_of, busy_settings, busy_updates}
use Rattle.plain.specs.Answer.{activates, deactivates, sets, outcome, conclude, answer_parts, parts_set}
use Rattle.plain.proofs.Put.{put_all, put_same}
use Rattle.plain.proofs.Clients.{activated_open}
use Rattle.plain.proofs.Outcomes.{outcomes_hold}

-- a client, and a node, with other unfinished lines
abbrev pub relined : Client → Line → Client
relined closed l = closed
relined (connected k a) l = connected l a

abbrev pub weave : Node → (ℕ → Line) → Node
weave n s = with_clients n (λ d. relined (n.clients d) (s d))

abbrev woven : (ℕ → Line) → Outcome → Outcome
woven s (denied e) = denied e
woven s (carried m ss rs r) = carried (weave m s) ss rs r

-- the same clients are open as at the node n
abbrev SameOpen : Node → Outcome → Type 0
SameOpen n (denied e) = Unit {0}
SameOpen n (carried m ss rs r) = (d : ℕ) → is_open (m.clients d) ≡ is_open (n.clients d)

-- what is claimed of what a request comes to at the node n with other unfinished lines, and at n
abbrev Through : Node → (ℕ → Line) → Outcome → Outcome → Type 0
Through n s o p = (o ≡ woven s p) × SameOpen n p

-- ## Clients

-- a client that is changed, and its line with it
pub weave_put : (n : Node) (s : ℕ → Line) (c : ℕ) (x : Client) (l : Line)
    → with_client (weave n s) c (relined x l) ≡ weave (with_client n c x) (put s c l)
unfolding put
weave_put n s c x l = λ i. with_clients n (fun_ext (λ d. go d (eqb d c)) i)
  where
    go : (d : ℕ) (q : Bool) → cond q (relined x l) (relined (n.clients d) (s d)) ≡ relined (cond q x (n.clients d)) (cond q l (s d))
    go d true = refl
    go d false = refl

active_relined : (x : Client) (l : Line) (i : ℕ) → is_active (relined x l) i ≡ is_active x i
unfolding is_active
active_relined closed l i = refl
active_relined (connected k a) l i = refl

-- as many modules are active
count_relined : (w : Table) (x : Client) (l : Line) → active_count w (relined x l) ≡ active_count w x
unfolding active_count
count_relined w x l = ap (λ (f : ℕ → Bool). count f (below (length w.modules))) (fun_ext (active_relined x l))

pub updates_woven : (f : ℕ → Client) (s : ℕ → Line) (i : ℕ) (r : DataReport) (cs : List ℕ)
    → updates_to (λ d. relined (f d) (s d)) i r cs ≡ updates_to f i r cs
unfolding updates_to
updates_woven f s i r [] = refl
updates_woven f s i r (c ∷ cs) = rw (active_relined (f c) (s c) i, updates_woven f s i r cs)

busy_woven : (f : ℕ → Client) (s : ℕ → Line) (o : Option (ℕ × Placed Parameter)) (t : ℕ)
    → busy_updates (λ d. relined (f d) (s d)) o t ≡ busy_updates f o t
unfolding busy_updates
busy_woven f s None t = refl
busy_woven f s (Some x) t = updates_woven f s x.1.home _ client_numbers

-- ## Outcomes

module _ (w : Table) (c now : ℕ) (n : Node) (s : ℕ → Line) where
  -- a change of the client's active modules, by what they were
  through_active : (f : (ℕ → Bool) → ℕ → Bool) (rs : List Record) (r : Reply)
      → Through n s
      (carried (with_client (weave n s) c (activated (f (is_active ((weave n s).clients c))) ((weave n s).clients c))) [] rs r)
      (carried (with_client n c (activated (f (is_active (n.clients c))) (n.clients c))) [] rs r)
  unfolding is_active activated
  through_active f rs r = (
    ap (λ m. carried m [] rs r)
        (ap (with_client (weave n s) c) (same (n.clients c) (s c))
        ∙ weave_put n s c (activated (f (is_active (n.clients c))) (n.clients c)) (s c)
        ∙ ap (weave (with_client n c (activated (f (is_active (n.clients c))) (n.clients c)))) (put_same s c)),
    put_all (λ d x. is_open x ≡ is_open (n.clients d)) n.clients c _ (activated_open (f (is_active (n.clients c))) (n.clients c)) (λ d. refl),
  )
    where
      same : (x : Client) (l : Line) → activated (f (is_active (relined x l))) (relined x l) ≡ relined (activated (f (is_active x)) x) l
      same closed l = refl
      same (connected k a) l = refl

  through_sets : (k : ℕ × Placed Parameter) (v : List ℕ) → Through n s (sets w (weave n s) c now k v) (sets w n c now k v)
  unfolding sets
  through_sets k v =
      let o = status_of w k.1 in
      let y : Setting = record { parameter = k.0; held = valued v; time = now } in
      let ss : List Setting = busy_settings o now ++ (y ∷ []) in
      let x = setting_value y in (
        ap₂
            (λ b l. carried (with_settings (weave n s) ss) ss (order_change c k.0 v ∷ (b ++ l)) (changed (report_of k.1 x)))
            (busy_woven n.clients s o now)
            (updates_woven n.clients s k.1.home (report_of k.1 x) client_numbers),
        λ d. refl,
      )

  through : (q : Request) → Through n s (outcome w (weave n s) c now q) (outcome w n c now q)
  unfolding activates deactivates
  through =
      outcomes_hold w (weave n s) n refl c now (record { counts = refl; active = count_relined w (n.clients c) (s c) }) (λ q. Through n s)
      (record {
        bad = λ q x. (refl, tt);
        failing = λ k f t h e. (refl, tt);
        telling = λ q f h. (refl, λ d. refl);
        activating = λ k g h. through_active (λ a i. a i || (ltb i (length w.modules) && g i)) (updates_of c g n.values 0 (parameters w)) (active k);
        deactivating = λ k g h. through_active (λ a i. a i && not (g i)) [] (inactive k);
        setting = λ k v h. through_sets k _;
        doing = λ k v h. (refl, λ d. refl);
      })

-- ## Answers

module _ (w : Table) (c now : ℕ) where
  pub answered : (p : Parts) (n : Node) (s : ℕ → Line)
      → answer_parts w (weave n s) c now p ≡ (weave (answer_parts w n c now p).0 s, (answer_parts w n c now p).1)
  unfolding answer_parts conclude
  answered p n s = ap (conclude w (weave n s) c now p) (through w c now n s (request p)).0 ∙ go (outcome w n c now (request p))
    where
      go : (o : Outcome) → conclude w (weave n s) c now p (woven s o) ≡ (weave (conclude w n c now p o).0 s, (conclude w n c now p o).1)
      go (denied e) = refl
      go (carried m ss rs r) = refl

  pub answered_sets : (p : Parts) (n : Node) (s : ℕ → Line) → parts_set w (weave n s) c now p ≡ parts_set w n c now p
  unfolding parts_set settings_of
  answered_sets p n s = ap settings_of (through w c now n s (request p)).0 ∙ go (outcome w n c now (request p))
    where
      go : (o : Outcome) → settings_of (woven s o) ≡ settings_of o
      go (denied e) = refl
      go (carried m ss rs r) = refl

  pub answered_open : (p : Parts) (n : Node) (d : ℕ) → is_open ((answer_parts w n c now p).0.clients d) ≡ is_open (n.clients d)
  unfolding answer_parts conclude
  answered_open p n d = go (outcome w n c now (request p)) (through w c now n (λ d. whole []) (request p)).1
    where
      go : (o : Outcome) → SameOpen n o → is_open ((conclude w n c now p o).0.clients d) ≡ is_open (n.clients d)
      go (denied e) h = refl
      go (carried m ss rs r) h = h d
