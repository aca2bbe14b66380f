-- Laws of a line that is answered: from what a request comes to, and what follows from it, to what the plain node answers. Assumes nothing.
use Rattle.std.specs.Prelude.{Option, Some, None}
use Prim.Native.Nat.{ℕ, ◌≤◌, ◌<◌}
use native.Mathlib.Omega.{arith}
use mathlib.Core.Path.{◌≡◌, refl, sym, ap, subst, ◌∙◌}
use mathlib.Core.Bool.{false}
use mathlib.Core.List.{List, [], ◌∷◌, append-nil}
use lib.ListN.{length}
use Rattle.ascii.specs.Numbers.{latest}
use Rattle.ascii.specs.Bytes.{any, take_while, drop_while, tail, same}
use Rattle.ascii.specs.Clauses.Writer.{Puts}
use Rattle.ascii.specs.Text.{bytes}
use Rattle.counter.specs.declared.Counts.{Counts}
use Rattle.message.specs.Line.{Parts, whole, content, before_space, after_space, parts_of}
use Rattle.message.specs.Request.{request}
use Rattle.message.specs.Clauses.Parsed.{part, Parted, Parses, meaning, Asks}
use Rattle.message.specs.Error.{Denial, class, fault}
use Rattle.message.specs.Clauses.Said.{class_of, fault_as}
use Rattle.message.specs.Reply.{valued, error}
use Rattle.message.specs.declared.say.Class.TheVariants.{ProtocolError}
use Rattle.message.specs.declared.line.Part.{Part}
use Rattle.message.specs.declared.line.Request.{Request}
use Rattle.message.proofs.Requests.{requested}
use Rattle.table.specs.Table.{Table}
use Rattle.table.specs.Layout.{table_of}
use Rattle.table.specs.Search.{parameters}
use Rattle.outbox.specs.Outbox.{Record, final, encode, encode_all}
use Rattle.plain.specs.Node.{Node, Setting, client_numbers}
use Rattle.plain.specs.Answer as Plain
use Rattle.plain.specs.Answer.{denied, carried, settings_of, outcome, conclude, answer_parts, parts_set, request_steps}
use Rattle.sound.proofs.Accepted.{accepted}
use Rattle.form.proofs.Stored.{short_stored}
use Rattle.state.specs.declared.Bare.{Bare}
use Rattle.state.specs.declared.Brief.{Brief}
use Rattle.state.specs.declared.Settings.{Settings}
use Rattle.state.specs.View.{view, with_length, with_setting, area_with, settings_with}
use Rattle.state.specs.Fit.{settings_unfit, client_unfit, is_unfit}
use Rattle.state.specs.Clauses.Bare.{with_lines, unlined, brief_masks}
use Rattle.ascii.proofs.Lists.{neither}
use Rattle.state.proofs.Flags.{nor}
use Rattle.state.proofs.Becomes.{Sized}
use Rattle.state.proofs.Cells.{active_becomes}
use Rattle.state.proofs.Kept.{still_fit}
use Rattle.state.proofs.Settled as Settled
use Rattle.state.proofs.Sets.{Settable, AllSettable, all_set}
use Rattle.sound.proofs.Lists.{there_low}
use Rattle.state.proofs.Views.{client_view}
use Rattle.outcome.specs.Clauses.Outcome.{status_settings, stored_by, Holds, StatusHolds, Carries, IsDenied, Sends, Activates, Stores, OutcomeIs, Comes, Answers}
use Rattle.outcome.specs.Clauses.Ready.{Ready}
use Rattle.outcome.specs.declared.Outcome.{Outcome}
use Rattle.outcome.specs.declared.Outcome.TheVariants.{Denied, Unreadable, Sent, Active, Stored}
use Rattle.outcome.specs.declared.Answered.{Answered}
use Rattle.line.specs.Clauses.Asked.{Carriable}
use Rattle.line.specs.Clauses.Answered.{AnswersLine, RepliesLine}
use Rattle.line.specs.Clauses.Names.{SoughtFor}
use Rattle.line.proofs.Seeks.{line_steps_lem}
use Rattle.seek.specs.declared.locate.Placed.{Placed}
use Rattle.message.specs.declared.line.Line.{Line}
use Rattle.line.specs.Clauses.Concluded.{StatusNumbered, Concludable, Denies, Keeps, Passes, Switches, Sets, Concludes}
use Rattle.line.proofs.Carried.{part_short}

-- one record, written at the front
encoded_one : (r : Record) → encode r ≡ encode_all (r ∷ [])
unfolding encode_all
encoded_one r = sym (append-nil (encode r))

-- a state by its three parts
parts_view : (table values : List ℕ) (r : Bare) {f : Brief} {g : Settings} {k : List Counts} → r.clients ≡ f → r.settings ≡ g → r.counts ≡ k
    → view table (unlined r) values ≡ view table (unlined (record { clients = f; settings = g; counts = k })) values
unfolding view
parts_view table values r a b c = λ i. view table (unlined (record { clients = a i; settings = b i; counts = c i })) values

-- ## On an accepted table, handed a fit state of which client c is open

module _ (table : List ℕ) (s : Bare) (values before : List ℕ) (c t : ℕ) (given : Ready table (unlined s) values before c) where
  abbrev w : Table
  w = table_of table

  abbrev n : Node
  n = view table (unlined s) values

  settings_fit : settings_unfit s.settings values 0 (parameters w) ≡ false
  unfolding is_unfit
  settings_fit = (neither (settings_unfit s.settings values 0 (parameters w)) _ given.fit).0

  clients_fit : any (client_unfit (length w.modules) (with_lines s.clients [])) client_numbers ≡ false
  unfolding is_unfit
  clients_fit = (neither (settings_unfit s.settings values 0 (parameters w)) _ given.fit).1

  -- an error: the state, the values area and what stood in the outbox before stay
  error_answered :
      (p : Parts) (after : List ℕ) (r : Answered) (e : Denial) → r.state ≡ s
      → Puts before 0 (encode (final c (error p.action p.specifier e))) after r.written
      → Answers table s values before r values after (conclude w n c t p (denied e)) []
  unfolding conclude area_with settings_with
  error_answered p after r e same puts =
      record {
        node = rw same;
        fit = rw same given.fit;
        puts = subst (λ (l : List ℕ). Puts before 0 l after r.written) (encoded_one _) puts;
        area = refl;
        settings = rw same;
        clients = rw same;
      }

  module _ (p : Parts) (mid stored : List ℕ) (o : Plain.Outcome) (after : List ℕ) (r : Answered) where
    -- what was carried out: its records were written before
    carried_answered :
        (next : Node) (written : ℕ) (set : List Setting) → Carries w n c t before mid values stored o next written set → Keeps mid after s c t r written
        → view table (unlined r.state) stored ≡ next → is_unfit w (unlined r.state) stored ≡ false
        → stored ≡ area_with values set → r.state.settings ≡ settings_with s.settings set
        → r.state.clients ≡ brief_masks s.clients r.state.clients.active
        → Answers table s values before r stored after (conclude w n c t p o) (settings_of o)
    unfolding conclude settings_of
    carried_answered next written set x k node fit area settings clients =
        rw x.is
        (record {
          node = node;
          fit = fit;
          puts = rw (k.size, k.quiet) x.puts;
          area = area;
          settings = settings;
          clients = clients;
        })

    denied_answered : (e : Denial) → IsDenied w n c t before mid values stored o (denied e) → Denies mid after s c t r p.action p.specifier e
        → Answers table s values before r stored after (conclude w n c t p o) (settings_of o)
    unfolding settings_of
    denied_answered e x k =
        rw (x.is, x.area)
        (error_answered p after r e k.state (subst (λ (l : List ℕ). Puts l 0 (encode (final c (error p.action p.specifier e))) after r.written) x.quiet k.puts))

    sent_answered : (written : ℕ) → Sends w n c t before mid values stored o written → Passes mid after s c t r written
        → Answers table s values before r stored after (conclude w n c t p o) (settings_of o)
    unfolding area_with settings_with
    sent_answered written x k =
        carried_answered n written [] x.carries k.keeps (rw (k.state, x.unstored)) (rw (k.state, x.unstored) given.fit) x.unstored (rw k.state)
        (rw k.state)

    active_answered : Sized (with_lines s.clients [])
        → (mask written : ℕ) → Activates w n c t before mid values stored o mask written → Switches mid after s c t r mask written
        → Answers table s values before r stored after (conclude w n c t p o) (settings_of o)
    unfolding is_unfit view area_with settings_with
    active_answered z mask written x k =
        let b = active_becomes (with_lines s.clients []) z c given.lent.low mask (ap (λ (x : Brief). with_lines x []) k.clients) in
        let fit = still_fit (length w.modules) b (record { is_open = given.is_open; within = x.low }) clients_fit in
        carried_answered _ written [] x.carries k.keeps
        (rw x.unstored (parts_view table values r.state refl k.settings k.counts ∙ client_view table (unlined s) values b))
        (rw x.unstored (rw k.settings (nor settings_fit fit)))
        x.unstored
        k.settings
        (rw k.clients)

    -- what is set is settable: a status, if there is one, and the parameter
    settable : t ≤ latest → {p : ℕ} {x : List ℕ} → Holds w p x → Settable w (record { parameter = p; held = valued x; time = t })
    settable h y = record { it = y.parameter; there = y.there; fits = y.fits; in_time = h }

    all_settable : t ≤ latest → (f : Option (ℕ × ℕ)) → StatusHolds w f → {k : ℕ} {x : List ℕ} → Holds w k x → AllSettable w (stored_by f k x t)
    all_settable h None i y = (settable h y, tt)
    all_settable h (Some (j, b)) i y = (settable h i, (settable h y, tt))

    -- lengths and times, of a status and then of the parameter
    settings_are : (g : Settings) (f : Option (ℕ × ℕ)) (k : ℕ) (x : List ℕ)
        → with_length (settings_with g (status_settings f t)) k (length x) t ≡ settings_with g (stored_by f k x t)
    unfolding settings_with with_setting
    settings_are g None k x = refl
    settings_are g (Some (j, b)) k x = refl

    stored_answered : Settled.Sized s.settings → t ≤ latest
        → (f : Option (ℕ × ℕ)) (k size written : ℕ) → Stores w n c t before mid values stored o f k size written → Sets mid after s c t r f k size written
        → Answers table s values before r stored after (conclude w n c t p o) (settings_of o)
    unfolding is_unfit
    stored_answered z h f k size written x y =
        let set : List Setting = stored_by f k x.text t in
        let settings : r.state.settings ≡ settings_with s.settings set = rw x.long at y.settings ∙ settings_are s.settings f k x.text in
        let is = all_set table (accepted table given.lent.accepted).few set (unlined s) values z given.area settings_fit
        (all_settable h f x.status x.holds) in
        carried_answered _ written set x.carries y.keeps
        (rw x.area (parts_view table (area_with values set) r.state y.clients settings y.counts ∙ is.node))
        (rw (x.area, settings, y.clients) (nor is.fit clients_fit))
        x.area
        settings
        (rw y.clients)

    answered : Sized (with_lines s.clients []) → Settled.Sized s.settings → t ≤ latest
        → (came : Outcome) → OutcomeIs w n c t before mid values stored came o → Concludes mid after s c t r p.action p.specifier came
        → Answers table s values before r stored after (conclude w n c t p o) (settings_of o)
    answered y z h (Denied e) x k = denied_answered (class (class_of e)) x k
    answered y z h (Unreadable f since) x k = denied_answered (fault (fault_as f) since) x k
    answered y z h (Sent written) x k = sent_answered written x k
    answered y z h (Active mask written) x k = active_answered y mask written x k
    answered i z h (Stored f k size written) x y = stored_answered z h f k size written x y

  -- ## A whole line

  -- a line without content
  pub bad_answered :
      (xs : List ℕ) → content (whole xs) ≡ [] → (after : List ℕ) (r : Answered) → r.state ≡ s
      → Puts before 0 (encode (final c (error [] [] (class (class_of ProtocolError))))) after r.written
      → Answers table s values before r values after (answer_parts w n c t (parts_of (content (whole xs))))
      (parts_set w n c t (parts_of (content (whole xs))))
  unfolding answer_parts parts_set settings_of parts_of before_space after_space take_while drop_while tail request same bytes outcome
  bad_answered xs e after r same puts = rw e (error_answered (record { action = []; specifier = []; payload = [] }) after r (class (class_of ProtocolError)) same puts)

  -- a number of a parameter that is there
  holds_low : {k : ℕ} {x : List ℕ} → Holds w k x → k < 64
  holds_low {k} y = omega (arith, there_low (parameters w) k y.parameter y.there, (accepted table given.lent.accepted).few)

  status_numbered : (f : Option (ℕ × ℕ)) → StatusHolds w f → StatusNumbered f
  status_numbered None x = tt
  status_numbered (Some (k, b)) x = holds_low x

  module _ (xs : List ℕ) (short : length xs ≤ 1024) (a p d : Part) (h : Parted xs a p d) where
    -- room for an error; numbers of parameters and a stored length
    pub concludable :
        (mid stored : List ℕ) (o : Plain.Outcome) (came : Outcome) → OutcomeIs w n c t before mid values stored came o
        → Concludable mid (part xs a) (part xs p) came
    concludable mid stored o (Denied e) x =
        record {
          room = rw x.quiet given.lent.room;
          action_short = part_short xs a h.action_in short;
          specifier_short = part_short xs p h.specifier_in short;
        }
    concludable mid stored o (Unreadable f since) x =
        record {
          room = rw x.quiet given.lent.room;
          action_short = part_short xs a h.action_in short;
          specifier_short = part_short xs p h.specifier_in short;
        }
    concludable mid stored o (Sent written) x = tt
    concludable mid stored o (Active mask written) x = tt
    concludable mid stored o (Stored f k size written) x =
        let y = x.holds in
        (status_numbered f x.status, (holds_low y, rw x.long (short_stored y.parameter.it.datainfo x.text y.fits)))

    pub carriable : (asked : Request) → Asks xs a p asked → Carriable xs p d asked
    carriable asked k = record { short = short; specifier_in = h.specifier_in; payload_in = h.payload_in; inside = k.inside }

    -- as the code has its action and its specifier
    pub parts_concludable :
        (action specifier : List ℕ) → action ≡ part xs a → specifier ≡ part xs p → (mid stored : List ℕ) (asked : Request) (came : Outcome)
        → Comes table (unlined s) values before c t came stored mid (meaning xs (part xs p) (part xs d) asked) → Concludable mid action specifier came
    parts_concludable action specifier e f mid stored asked came x = rw (e, f) (concludable mid stored _ came x)

    pub line_answered :
        (asked : Request) → Asks xs a p asked → Sized (with_lines s.clients []) → Settled.Sized s.settings → t ≤ latest
        → (mid stored after : List ℕ) (came : Outcome) (r : Answered)
        → Comes table (unlined s) values before c t came stored mid (meaning xs (part xs p) (part xs d) asked)
        → Concludes mid after s c t r (part xs a) (part xs p) came
        → Answers table s values before r stored after (answer_parts w n c t (parts_of (content (whole xs))))
        (parts_set w n c t (parts_of (content (whole xs))))
    unfolding answer_parts parts_set
    line_answered asked k i z l mid stored after came r x y =
        answered (parts_of (content (whole xs))) mid stored (outcome w n c t (request (parts_of (content (whole xs))))) after r i z l came
        (rw (requested xs a p d asked h k) at x)
        (rw (h.action_is, h.specifier_is) at y)

    -- with its search
    pub parts_replied :
        (index : List ℕ) (asked : Request) → Asks xs a p asked → (found : Placed) → SoughtFor table index xs asked found
        → (r : Answered) (stored after : List ℕ) → AnswersLine table s values before c t xs r stored after
        → RepliesLine table s values before c t index xs (record { answered = r; steps = found.steps }) stored after
    parts_replied index asked k found x r stored after y = record { answers = y; steps = line_steps_lem table index xs a p d h asked k found x }

  -- a line without content seeks nothing
  pub bad_replied :
      (index xs : List ℕ) (w : Option Line) → Parses xs w → w ≡ None → (after : List ℕ) (written : ℕ)
      → Puts before 0 (encode (final c (error [] [] (class (class_of ProtocolError))))) after written
      → RepliesLine table s values before c t index xs (record { answered = record { state = s; written = written }; steps = 0 }) values after
  unfolding request_steps parts_of before_space after_space take_while drop_while tail request same bytes
  bad_replied index xs w h z after written puts =
      let e : content (whole xs) ≡ [] = rw z at h in
      record { answers = bad_answered xs e after (record { state = s; written = written }) refl puts; steps = rw e }
