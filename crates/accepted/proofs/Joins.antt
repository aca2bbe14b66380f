-- A piece that is accepted: the line that is ended, and the bytes before a line feed. Assumes nothing.
use Rattle.std.specs.Prelude.{Option, Some, None}
use Prim.Native.Nat.{ℕ, ◌+◌, ◌*◌, ◌-◌, ◌≤◌, ◌<◌}
use native.Mathlib.Omega.{arith}
use mathlib.Core.Bool.{Bool, true, false, cond, ◌||◌}
use mathlib.Core.List.{List, [], ◌++◌}
use mathlib.Core.Path.{◌≡◌, refl, sym, ap, subst, ◌∙◌}
use lib.Dec.{ltb}
use lib.ListN.{length, get_or, take, drop, length-take, length-drop}
use lib.Seq.{sets, length-take-le, take_all}
use borrow.Author.Tests.{ltb-true, ltb-false, lt-ltb, le-ltb, ne_eqb}
use Rattle.ascii.specs.Bytes.{all}
use Rattle.ascii.specs.Numbers.{latest}
use Rattle.ascii.specs.Clauses.Writer.{Puts}
use Rattle.ascii.proofs.Puts.{puts_length}
use Rattle.table.specs.Layout.{table_of}
use Rattle.message.specs.Line.{whole, overlong, printable, without_return, content, parts_of}
use Rattle.message.specs.Request.{request}
use Rattle.outbox.specs.Outbox.{Record, encode_all}
use Rattle.outbox.proofs.Tallied.{puts_holds}
use Rattle.plain.specs.Node.{connected, Node, line_of, receive, emptied, line_taken, counting}
use Rattle.plain.proofs.Counts.{no_answers}
use Rattle.plain.specs.Answer.{answer_parts, answer, parts_set, answer_sets, request_steps, line_steps}
use Rattle.plain.specs.Calls.{Event, Piece, before_feed, has_feed, ended, ended_steps, event_steps}
use Rattle.sound.proofs.Accepted.{accepted}
use Rattle.sound.proofs.Held.{with_client_lem}
use Rattle.sound.proofs.Lines.{no_feed, before_feed_lem, received}
use Rattle.sound.proofs.Steps.{answered}
use Rattle.state.specs.declared.Bare.{Bare}
use Rattle.state.specs.declared.Brief.{Brief}
use Rattle.state.specs.declared.Clients.{Clients}
use Rattle.state.specs.declared.State.{State}
use Rattle.state.specs.View.{is_set, bit, line_bytes, line_at, client_at, view, next_clients, next_counts}
use Rattle.state.specs.Clauses.Bare.{lined}
use Rattle.state.specs.Clauses.Bare.{with_lines, unlined, brief_of, brief_ended, brief_masks}
use Rattle.state.specs.Clauses.Counted.{line_counted, LineCounted, SentCounted}
use Rattle.state.proofs.Areas.{written}
use Rattle.state.proofs.Cells.{ended_becomes}
use Rattle.state.proofs.Counted.{counts_fit, sent_node, sent_fit, sent_settings, sent_clients}
use Rattle.state.proofs.Forms.{stands}
use Rattle.state.proofs.Stands.{fit_is_sound}
use Rattle.state.specs.Changed.{with_joined}
use Rattle.state.proofs.Becomes.{Becomes, Always, Joinable, Sized, LinesFit}
use Rattle.state.proofs.Joins.{joined_becomes}
use Rattle.state.proofs.Received.{receive_overlong, receive_whole, receive_over}
use Rattle.outcome.specs.declared.Replied.{Replied}
use Rattle.outcome.specs.Clauses.Ready.{Ready}
use Rattle.promise.specs.declared.Done.{Done}
use Rattle.promise.specs.Clauses.Leaves.{held_node, Leaves, LeavesIn, AnswersEnded}
use Rattle.promise.proofs.Clients.{joins, take_before, no_feed_lem, a_feed}
use Rattle.promise.proofs.Feeds.{held_answer_lem, feeds}
use Rattle.promise.proofs.Held as Held
use Rattle.promise.proofs.Held.{lines_fit, emptied_ready}
use Rattle.promise.specs.Clauses.Answer.{done_with}
use Rattle.line.specs.Clauses.Answered.{RepliesLine}
use Rattle.accepted.specs.Clauses.Held.{FeedAt, line_with, held_answer, AnswersHeld}
use Rattle.accepted.proofs.Lines.{ready_unlined, answers_lined}

line_length : (s : Clients) → length s.lines ≡ 8192 → (c : ℕ) → c < 8 → LinesFit s → length (line_bytes s c) ≡ get_or s.length c 0
unfolding line_bytes
line_length s e c h fits =
    let n = fits c in
    length-take-le (get_or s.length c 0) (drop (1024 * c) s.lines) (rw length-drop (omega arith))

pub prefix_short : (r : ℕ) (l : List ℕ) → r ≤ 1024 → length (take r l) ≤ 1024
prefix_short r l h = rw length-take (omega arith)

pub prefix_length : (r : ℕ) (l : List ℕ) → r ≤ length l → r ≡ length (take r l)
prefix_length r l h = sym (length-take-le r l h)

-- ## The line that is ended

-- an overlong line says what an empty one does
overlong_content : content overlong ≡ content (whole [])
unfolding content printable without_return all
overlong_content = refl

module _ (s : Clients) (c : ℕ) (bs : List ℕ) where
  -- as the code finds it: inside an overlong line, or with these bytes over 1,024
  pub line_dropped : (get_or s.overlong c 0 ≡ 0 → ⊥) → [] ≡ line_with s c bs
  unfolding line_with is_set
  line_dropped h = rw (ne_eqb (get_or s.overlong c 0) 0 h)

  module _ (w : get_or s.overlong c 0 ≡ 0) (n : get_or s.length c 0 ≤ 1024) where
    pub line_over : 1024 - get_or s.length c 0 < length bs → [] ≡ line_with s c bs
    unfolding line_with is_set
    line_over h = rw (w, lt-ltb 1024 (get_or s.length c 0 + length bs) (omega arith))

    module _ (h : length bs ≤ 1024 - get_or s.length c 0) where
      line_on : line_bytes s c ++ bs ≡ line_with s c bs
      unfolding line_with is_set
      line_on = rw (w, le-ltb 1024 (get_or s.length c 0 + length bs) (omega arith))

      -- the bytes that the client has
      abbrev own : List ℕ
      own = take (1024 * c + get_or s.length c 0 - 1024 * c) (drop (1024 * c) s.lines)

      own_is : own ≡ line_bytes s c
      unfolding line_bytes
      own_is = ap (λ (k : ℕ). take k (drop (1024 * c) s.lines)) (let k : 1024 * c + get_or s.length c 0 - 1024 * c ≡ get_or s.length c 0 = omega arith in k)

      module _ (low : c < 8) (room : length s.lines ≡ 8192) where
        pub own_within : 1024 * c + get_or s.length c 0 ≤ length s.lines
        own_within = omega arith

        own_length : length own ≡ get_or s.length c 0
        own_length =
            let k : 1024 * c + get_or s.length c 0 - 1024 * c ≡ get_or s.length c 0 = omega arith in
            rw k (length-take-le (get_or s.length c 0) (drop (1024 * c) s.lines) (rw length-drop (omega arith)))

        module _ (line : List ℕ) (long : 1024 ≤ length line) where
          pub own_room : 0 + length own ≤ length line
          own_room = omega (arith, own_length)

          module _ (mid : List ℕ) (k : ℕ) (x : Puts line 0 own mid k) where
            pub rest_room : k + length bs ≤ length mid
            rest_room = omega (arith, own_length, x.ends, puts_length x)

            module _ (after : List ℕ) (r : ℕ) (y : Puts mid k bs after r) where
              pub line_short : r ≤ 1024
              line_short = omega (arith, own_length, x.ends, y.ends)

              front : take k mid ≡ own
              front = let e = x.ends in subst (λ (j : ℕ). take j mid ≡ own) (let z : k - 0 ≡ k = omega arith in z) (stands x (omega (arith, own_length)))

              pub line_whole : take r after ≡ line_with s c bs
              line_whole =
                  let e = y.ends in
                  let z : 0 + k ≡ k = omega arith in
                  rw (y.ends, y.is)
                  (subst (λ (j : ℕ). take (k + length bs) (sets mid j bs) ≡ take k mid ++ bs) z (written bs mid 0 k (omega (arith, own_length, x.ends, puts_length x)))
                  ∙ ap (λ (l : List ℕ). l ++ bs) (front ∙ own_is) ∙ line_on)

module _ (table : List ℕ) (s : State) (values out : List ℕ) (c t : ℕ) (g : Ready table s values out c) where
  module _ (bs : List ℕ) where
    -- the node that holds the line
    abbrev held : Node
    held = held_node table s values c bs

    -- what it says
    says : Sized s.clients → length s.clients.lines ≡ 8192
        → content (line_of (receive (client_at s.clients c) bs)) ≡ content (whole (line_with s.clients c bs))
    unfolding client_at line_at line_of line_with
    says z room =
        rw g.is_open
        (go (is_set s.clients.overlong c) (ltb 1024 (get_or s.clients.length c 0 + length bs)) (ltb-true 1024 _) (ltb-false 1024 _))
      where
        own : List ℕ
        own = line_bytes s.clients c

        size : length own ≡ get_or s.clients.length c 0
        size = line_length s.clients room c g.lent.low (lines_fit table s values out c g z)

        go : (t u : Bool) → (u ≡ true → 1024 < get_or s.clients.length c 0 + length bs) → (u ≡ false → get_or s.clients.length c 0 + length bs ≤ 1024)
            → content (line_of (receive (connected (cond t overlong (whole own)) (bit (get_or s.clients.active c 0))) bs))
            ≡ content (whole (cond (t || u) [] (own ++ bs)))
        go true u p q = rw (receive_overlong (bit (get_or s.clients.active c 0)) bs) overlong_content
        go false true p q =
            rw (receive_over (bit (get_or s.clients.active c 0)) bs own (omega (arith, size, Held.line_short table s values out c g)) (omega (arith, size, p refl)))
            overlong_content
        go false false p q = rw (receive_whole (bit (get_or s.clients.active c 0)) bs own (omega (arith, size, q refl)))

    -- the line is counted
    module _ (z : Sized s.clients) (room : length s.clients.lines ≡ 8192) (q : Brief) (e : q ≡ brief_ended (brief_of s.clients) c) (u : Bare)
        (y : LineCounted (record { clients = q; settings = s.settings; counts = s.counts }) c u) where
      abbrev lines : List ℕ
      lines = s.clients.lines

      abbrev r : Clients
      r = with_lines q lines

      b : Becomes s.clients c (emptied (client_at s.clients c)) Always r
      b = ended_becomes s.clients z c g.lent.low (ap (λ (x : Brief). with_lines x lines) e)

      is_counted : lined u lines ≡ next_counts (next_clients s r) (line_counted s.counts c)
      is_counted = ap (λ (x : Bare). lined x lines) y.is

      counted_ready : Ready table (lined u lines) values out c
      counted_ready =
          let k = emptied_ready table s values out c g r b in
          record {
            lent = k.lent;
            area = k.area;
            fit = counts_fit (table_of table) (next_clients s r) (lined u lines) values _ is_counted k.fit;
            is_open = ap (λ (z : State). is_set z.clients.open c) is_counted ∙ k.is_open;
          }

      pub bare_ready : Ready table (unlined u) values out c
      bare_ready = ready_unlined table u lines values out c counted_ready

      -- what holds of the node and the line that the code goes on with
      goes_on_lem : (P : Node → List ℕ → Type 0) (l : List ℕ) → l ≡ line_with s.clients c bs → P (view table (lined u lines) values) (content (whole l))
          → P (line_taken held c) (content (line_of (held.clients c)))
      goes_on_lem P l e x =
          let v = subst (λ (x : State). P (view table x values) (content (whole l))) is_counted x in
          held_answer_lem table s values out c t r P bs l (says z room ∙ ap (λ (l : List ℕ). content (whole l)) (sym e)) b y.size g.lent.low v

      pub held_replied : (l : List ℕ) → l ≡ line_with s.clients c bs → (index : List ℕ) {a : Replied} {values' out' : List ℕ}
          → RepliesLine table u values out c t index l a values' out'
          → AnswersHeld table index s values out held c t a values' out' (held_answer (table_of table) held c t)
      unfolding answer_sets line_steps
      held_replied l is index {a} {values'} {out'} x =
          let P : Node → List ℕ → Type 0 =
          λ m l. AnswersEnded table s values out c a.answered values' out' (answer_parts (table_of table) m c t (parts_of l))
          (parts_set (table_of table) m c t (parts_of l)) in
          record {
            answers =
                goes_on_lem P l is
                (answers_lined table s values out c t (parts_of (content (whole l))) u (ap (λ (z : Bare). z.settings) y.is)
                (ap (λ (z : Bare). z.clients) y.is ∙ e) counted_ready.fit x.answers);
            steps = goes_on_lem (λ m l. a.steps ≡ request_steps (table_of table) index (request (parts_of l))) l is x.steps;
          }

    -- ## What is sent is counted

    module _ (z : Sized s.clients) (h : t ≤ latest) (unfed : all no_feed bs ≡ true) (index : List ℕ) {a : Replied} {values' out' : List ℕ}
        (x : AnswersHeld table index s values out held c t a values' out' (held_answer (table_of table) held c t)) where
      abbrev told : List Record
      told = (held_answer (table_of table) held c t).1

      sent_short : length (encode_all told) ≤ 32019
      unfolding ended answer
      sent_short =
          let low = g.lent.low in
          let w = table_of table in
          let sound = fit_is_sound table s values z g.lent.accepted g.fit in
          let kept = with_client_lem w (view table s values) c (receive ((view table s values).clients c) bs) (omega arith)
          (received w ((view table s values).clients c) bs unfed (sound.clients c)) sound in
          (answered w (accepted table g.lent.accepted) held kept c t (omega arith) h true).written.short

      pub replied_few : a.answered.written ≤ 65536
      replied_few = let e = x.answers.puts.ends in omega (arith, sent_short)

      pub replied_counted : (u : Bare) → SentCounted a.answered.state out' a.answered.written u
          → AnswersHeld table index s values out held c t (record { answered = record { state = u; written = a.answered.written }; steps = a.steps }) values' out'
          (answer (table_of table) held c t)
      unfolding answer
      replied_counted u y =
          let i = a.answered in
          let low = g.lent.low in
          let e = x.answers.puts.ends in
          let room = g.lent.room in
          let holds = puts_holds x.answers.puts (omega (arith, sent_short)) in
          let lines = s.clients.lines in
          let k = sent_node table i.state lines values' out' i.written u y told holds in
          let same = sent_clients table i.state lines values' out' i.written u y told holds in
          record {
            answers =
                record {
                  node =
                      k (λ d above. no_answers d above c (omega arith) (table_of table) (line_taken held c) t (parts_of (content (line_of (held.clients c)))))
                      ∙ ap (λ (m : Node). counting m told) x.answers.node;
                  fit = sent_fit table i.state lines values' out' i.written u y told holds (table_of table) x.answers.fit;
                  puts = x.answers.puts;
                  area = x.answers.area;
                  settings = sent_settings table i.state lines values' out' i.written u y told holds ∙ x.answers.settings;
                  clients = subst (λ (b : Brief). b ≡ brief_masks (brief_ended (brief_of s.clients) c) b.active) (sym same) x.answers.clients;
                };
            steps = x.steps;
          }

-- ## The bytes before a line feed

pub feed_at : (bs : List ℕ) (o : Option ℕ) → FeedAt bs o → (n : ℕ) → o ≡ Some n → (n ≡ length (before_feed bs)) × (n < length bs)
feed_at bs o f n e = rw e at f

pub no_feed_at : (bs : List ℕ) (o : Option ℕ) → FeedAt bs o → ((x : ℕ) → o ≡ Some x → ⊥) → length bs ≡ length (before_feed bs)
no_feed_at bs None f n = f
no_feed_at bs (Some x) f n = absurd (n x refl)

module _ (table : List ℕ) (s : State) (values outbox : List ℕ) (c t : ℕ) (bs : List ℕ) (g : Ready table s values outbox c) {n : ℕ}
    (first : n ≡ length (before_feed bs)) where
  abbrev piece : Event
  piece = Piece c bs t

  taken : take n bs ≡ before_feed bs
  taken = ap (λ (k : ℕ). take k bs) first ∙ take_before bs

  pub taken_length : n ≡ length (take n bs)
  taken_length = first ∙ ap length (sym taken)

  pub taken_unfed : all no_feed (take n bs) ≡ true
  taken_unfed = rw taken (before_feed_lem bs)

  -- all of them join
  pub piece_joins : Sized s.clients → length s.clients.lines ≡ 8192 → n ≡ length bs → (index : List ℕ) (d : Done)
      → d ≡ done_with (length bs) 0 0 (next_clients s (with_joined s.clients c bs))
      → LeavesIn table s values piece index outbox d values outbox
  unfolding event_steps ended_steps
  piece_joins z room e index d q =
      let f = no_feed_lem bs (sym first ∙ e) in
      let all-taken : bs ≡ before_feed bs = sym (take_all n bs (omega arith)) ∙ taken in
      let r = with_joined s.clients c bs in
      let joined : Becomes s.clients c (receive (client_at s.clients c) (before_feed bs)) (Joinable s.clients c (before_feed bs)) r =
      subst (λ (x : List ℕ). Becomes s.clients c (receive (client_at s.clients c) x) (Joinable s.clients c x) r) all-taken
      (joined_becomes s.clients z room c g.lent.low (lines_fit table s values outbox c g z) bs refl) in
      rw q
      (record {
        leaves =
            subst (λ (k : ℕ). Leaves table s values piece outbox (done_with k 0 0 (next_clients s r)) values outbox) (sym first ∙ e)
            (joins table s values g.fit c t r bs outbox g.is_open f refl joined);
        steps = rw f;
      })

  a_line : n < length bs → has_feed bs ≡ true
  a_line e = a_feed bs (omega (arith, first))

  pub piece_feeds : n < length bs → {u : ℕ} → u ≡ n + 1 → (a : Replied) (index : List ℕ) {values' outbox' : List ℕ}
      → AnswersHeld table index s values outbox (held_node table s values c (take n bs)) c t a values' outbox'
      (answer (table_of table) (held_node table s values c (take n bs)) c t)
      → LeavesIn table s values piece index outbox
      (done_with u a.answered.written a.steps (lined a.answered.state s.clients.lines)) values' outbox'
  unfolding event_steps ended_steps
  piece_feeds e v a index {values'} {outbox'} held =
      let i = a.answered in
      let x = subst (λ (l : List ℕ). AnswersHeld table index s values outbox (held_node table s values c l) c t a values' outbox'
      (answer (table_of table) (held_node table s values c l) c t)) taken held in
      record {
        leaves =
            subst
            (λ (k : ℕ). Leaves table s values piece outbox (done_with k i.written a.steps (lined i.state s.clients.lines)) values' outbox')
            (sym (v ∙ ap (λ (k : ℕ). k + 1) first))
            (feeds table s values outbox c t bs (a_line e) i values' outbox' x.answers a.steps);
        steps = rw (a_line e) x.steps;
      }
