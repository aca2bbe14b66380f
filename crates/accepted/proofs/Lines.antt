-- The lines, which the code that answers one is not handed: the plain node and fitness with them and without. Assumes nothing.
use Prim.Native.Nat.{ℕ, zero, suc, ◌*◌, ◌<◌}
use mathlib.Core.Bool.{Bool, true, false, cond}
use mathlib.Core.List.{List, []}
use mathlib.Core.Path.{◌≡◌, refl, sym, ap, ap₂, subst, fun_ext, ◌∙◌}
use lib.Dec.{eqb}
use lib.ListN.{length, get_or, take, drop}
use lib.Seq.{take-nil}
use Rattle.ascii.specs.Bytes.{any}
use Rattle.ascii.specs.Clauses.Writer.{Puts}
use Rattle.table.specs.Table.{Table}
use Rattle.table.specs.Layout.{table_of}
use Rattle.message.specs.Line.{Line, Parts}
use Rattle.message.specs.Reply.{DataReport}
use Rattle.outbox.specs.Outbox.{Record, encode_all}
use Rattle.plain.specs.Node.{Client, closed, connected, Node, with_clients, client_numbers, updates_to}
use Rattle.plain.specs.Answer.{answer_parts, parts_set}
use Rattle.second.proofs.Lines.{relined, weave, updates_woven, answered, answered_sets}
use Rattle.state.specs.declared.Bare.{Bare}
use Rattle.state.specs.declared.Brief.{Brief}
use Rattle.state.specs.declared.State.{State}
use Rattle.state.specs.View.{is_set, bit, line_bytes, line_at, client_at, view, area_with, settings_with}
use Rattle.state.specs.Fit.{client_unfit, is_unfit}
use Rattle.state.specs.Clauses.Bare.{with_lines, lined, unlined, brief_of, brief_ended, brief_masks}
use Rattle.state.proofs.Cells.{fit_at}
use Rattle.state.proofs.Kept.{each_fit, all_fit}
use Rattle.outcome.specs.Clauses.Outcome.{Answers}
use Rattle.outcome.specs.Clauses.Ready.{Ready}
use Rattle.outcome.specs.declared.Answered.{Answered}
use Rattle.promise.specs.Clauses.Leaves.{AnswersEnded}
use Rattle.promise.proofs.Clients.{fit_parts, with_clients_lem}

-- ## The plain node

module _ (s : Brief) (lines : List ℕ) where
  client_lined : (d : ℕ) → client_at (with_lines s lines) d ≡ relined (client_at (with_lines s []) d) (line_at (with_lines s lines) d)
  unfolding client_at
  client_lined d = go (is_set s.open d) (line_at (with_lines s lines) d) (line_at (with_lines s []) d) (bit (get_or s.active d 0))
    where
      go : (t : Bool) (l k : Line) (a : ℕ → Bool) → cond t (connected l a) closed ≡ relined (cond t (connected k a) closed) l
      go true l k a = refl
      go false l k a = refl

  clients_lined : client_at (with_lines s lines) ≡ (λ d. relined (client_at (with_lines s []) d) (line_at (with_lines s lines) d))
  clients_lined = fun_ext client_lined

  -- the same updates are sent
  pub updates_lined : (i : ℕ) (r : DataReport) (cs : List ℕ) → updates_to (client_at (with_lines s lines)) i r cs ≡ updates_to (client_at (with_lines s [])) i r cs
  updates_lined i r cs =
      ap (λ (f : ℕ → Client). updates_to f i r cs) clients_lined ∙ updates_woven (client_at (with_lines s [])) (line_at (with_lines s lines)) i r cs

module _ (table : List ℕ) (s : Bare) (lines values : List ℕ) where
  abbrev bare : Node
  bare = view table (unlined s) values

  view_lined : view table (lined s lines) values ≡ weave bare (line_at (with_lines s.clients lines))
  unfolding view
  view_lined = ap (with_clients bare) (clients_lined s.clients lines)

  -- the same is answered and set
  module _ (c t : ℕ) (p : Parts) where
    abbrev w : Table
    w = table_of table

    answered_lined : answer_parts w (view table (lined s lines) values) c t p
        ≡ (weave (answer_parts w bare c t p).0 (line_at (with_lines s.clients lines)), (answer_parts w bare c t p).1)
    answered_lined =
        ap (λ (n : Node). answer_parts w n c t p) view_lined ∙ answered w c t p bare (line_at (with_lines s.clients lines))

    sets_lined : parts_set w (view table (lined s lines) values) c t p ≡ parts_set w bare c t p
    sets_lined = ap (λ (n : Node). parts_set w n c t p) view_lined ∙ answered_sets w c t p bare (line_at (with_lines s.clients lines))

-- ## Fitness

abbrev unfed : Brief → List ℕ → ℕ → Type 0
unfed s lines c = any (λ b. eqb b 10) (line_bytes (with_lines s lines) c) ≡ false

none_taken : (n k : ℕ) → take n (drop {A = ℕ} k []) ≡ []
none_taken n zero = take-nil n
none_taken n (suc k) = take-nil n

none_unfed : (s : Brief) (c : ℕ) → unfed s [] c
unfolding line_bytes any
none_unfed s c = ap (any (λ (b : ℕ). eqb b 10)) (none_taken (get_or s.length c 0) (1024 * c))

-- with other lines, of which none has a line feed
module _ (m : ℕ) (s : Brief) (l k : List ℕ) (others : (c : ℕ) → c < 8 → unfed s k c) where
  client_fit : (c : ℕ) → client_unfit m (with_lines s l) c ≡ false → unfed s k c → client_unfit m (with_lines s k) c ≡ false
  unfolding client_unfit is_set
  client_fit c h n = let f = fit_at m (with_lines s l) c h in rw (f.short, n, f.dropped, f.within, f.forgotten)

  clients_fit : any (client_unfit m (with_lines s l)) client_numbers ≡ false → any (client_unfit m (with_lines s k)) client_numbers ≡ false
  clients_fit h = all_fit m (with_lines s k) (λ c low. client_fit c (each_fit m (with_lines s l) h c low) (others c low))

module _ (w : Table) (s : Bare) (lines values : List ℕ) where
  abbrev modules : ℕ
  modules = length w.modules

  pub fit_unlined : is_unfit w (lined s lines) values ≡ false → is_unfit w (unlined s) values ≡ false
  fit_unlined h =
      with_clients_lem w (lined s lines) values (with_lines s.clients []) h
      (clients_fit modules s.clients lines [] (λ c low. none_unfed s.clients c) (fit_parts w (lined s lines) values h).1)

  -- and back, where lengths and lines are those of a fit state
  pub fit_lined : (r : Bare) (stored masks : List ℕ) → is_unfit w (lined s lines) values ≡ false → r.clients ≡ brief_masks s.clients masks
      → is_unfit w (unlined r) stored ≡ false → is_unfit w (lined r lines) stored ≡ false
  unfolding line_bytes
  fit_lined r stored masks f e h =
      with_clients_lem w (unlined r) stored (with_lines r.clients lines) h
      (clients_fit modules r.clients [] lines unfed_still (fit_parts w (unlined r) stored h).1)
    where
      unfed_still : (c : ℕ) → c < 8 → unfed r.clients lines c
      unfed_still c low =
          let before = each_fit modules (with_lines s.clients lines) (fit_parts w (lined s lines) values f).1 c low in
          subst (λ (b : Brief). unfed b lines c) (sym e) (fit_at modules (with_lines s.clients lines) c before).no_feed

-- ## What answering is given, and what it leaves

pub ready_unlined : (table : List ℕ) (s : Bare) (lines values out : List ℕ) (c : ℕ) → Ready table (lined s lines) values out c
    → Ready table (unlined s) values out c
ready_unlined table s lines values out c g =
    record { lent = g.lent; area = g.area; fit = fit_unlined (table_of table) s lines values g.fit; is_open = g.is_open }

-- the state u is s with client c's line ended
module _ (table : List ℕ) (s : State) (values out : List ℕ) (c t : ℕ) (p : Parts) (u : Bare) (held : u.settings ≡ s.settings)
    (places : u.clients ≡ brief_ended (brief_of s.clients) c) (fit : is_unfit (table_of table) (lined u s.clients.lines) values ≡ false) where
  abbrev lines : List ℕ
  lines = s.clients.lines

  same_lines_lem : (r : Brief) (masks : List ℕ) → r ≡ brief_masks u.clients masks → line_at (with_lines r lines) ≡ line_at (with_lines u.clients lines)
  unfolding line_at line_bytes
  same_lines_lem r masks e = ap (λ (b : Brief). line_at (with_lines b lines)) e ∙ fun_ext (λ d. refl)

  pub answers_lined : {r : Answered} {stored after : List ℕ}
      → Answers table u values out r stored after (answer_parts (table_of table) (view table (unlined u) values) c t p)
      (parts_set (table_of table) (view table (unlined u) values) c t p)
      → AnswersEnded table s values out c r stored after (answer_parts (table_of table) (view table (lined u lines) values) c t p)
      (parts_set (table_of table) (view table (lined u lines) values) c t p)
  answers_lined {r} {stored} {after} x =
      let a = sym (answered_lined table u lines values c t p) in
      let ss = sym (sets_lined table u lines values c t p) in
      let masks = r.state.clients.active in
      record {
        node =
            view_lined table r.state lines stored
            ∙ ap₂ weave x.node (same_lines_lem r.state.clients masks x.clients)
            ∙ ap (λ (y : Node × List Record). y.0) a;
        fit = fit_lined (table_of table) u lines values r.state stored masks fit x.clients x.fit;
        puts = subst (λ (y : Node × List Record). Puts out 0 (encode_all y.1) after r.written) a x.puts;
        area = x.area ∙ ap (area_with values) ss;
        settings = x.settings ∙ ap₂ settings_with held ss;
        clients = x.clients ∙ ap (λ (b : Brief). brief_masks b masks) places;
      }
