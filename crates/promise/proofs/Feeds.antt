-- What is left by a piece with a line feed: the line that is held is answered. Assumes nothing.
use Prim.Native.Nat.{ℕ, ◌+◌, ◌<◌}
use native.Mathlib.Nat.{zero-add}
use mathlib.Core.Bool.{true}
use mathlib.Core.List.{List}
use mathlib.Core.Path.{◌≡◌, refl, sym, ap, ◌∙◌, subst₂}
use lib.ListN.{length}
use Rattle.table.specs.Layout.{table_of}
use Rattle.message.specs.Line.{whole, content}
use Rattle.counter.specs.Counts.{lines_counted}
use Rattle.plain.specs.Node.{Client, Node, put, with_clients, with_client, with_count, line_of, receive, emptied, line_taken}
use Rattle.plain.proofs.Put.{put_at, put_put}
use Rattle.plain.proofs.Clients.{emptied_received}
use Rattle.plain.specs.Answer.{answer, answer_sets}
use Rattle.plain.specs.Calls.{Piece, Effect, effect, piece_effect, ended, ended_sets, before_feed, has_feed, used_of}
use Rattle.state.specs.declared.Brief.{Brief}
use Rattle.state.specs.declared.Clients.{Clients}
use Rattle.state.specs.declared.State.{State}
use Rattle.state.specs.View.{client_at, view, area_with, settings_with, outbox_after, written, next_clients, next_counts}
use Rattle.state.specs.Places.{places_after}
use Rattle.state.specs.Clauses.Bare.{lined}
use Rattle.state.specs.Clauses.Bare.{with_lines}
use Rattle.state.specs.Clauses.Counted.{line_counted}
use Rattle.state.proofs.Counted.{line_view}
use Rattle.state.proofs.Becomes.{Becomes, Always}
use Rattle.state.proofs.Views.{client_view}
use Rattle.outcome.specs.declared.Answered.{Answered}
use Rattle.promise.specs.Clauses.Leaves.{held_node, Leaves, AnswersEnded}
use Rattle.promise.specs.Clauses.Answer.{done_with}

-- ## The line that is ended

-- a line that is ended leaves what one without these bytes does
taken_same : (n : Node) (c : ℕ) (bs : List ℕ) → line_taken (with_client n c (receive (n.clients c) bs)) c ≡ line_taken n c
taken_same n c bs =
    let x = receive (n.clients c) bs in
    ap (λ (f : ℕ → Client). with_count (with_clients n f) c (lines_counted (n.counts c) 1))
    (put_put n.clients c x (emptied (put n.clients c x c))
    ∙ ap (put n.clients c) (ap emptied (put_at n.clients c x) ∙ emptied_received (n.clients c) bs))

-- the line of client c is carried out: s is the state before the piece, r the clients with that line empty, and bs the piece's bytes
module _ (table : List ℕ) (s : State) (values outbox : List ℕ) (c t : ℕ) (r : Clients) where
  -- what holds of the node without the line, and of the line's content, which l has too
  pub held_answer_lem : (P : Node → List ℕ → Type 0) (bs l : List ℕ) → content (line_of (receive (client_at s.clients c) bs)) ≡ content (whole l)
      → Becomes s.clients c (emptied (client_at s.clients c)) Always r
      → length s.counts ≡ 8 → c < 8
      → P (view table (next_counts (next_clients s r) (line_counted s.counts c)) values) (content (whole l))
      → P (line_taken (held_node table s values c bs) c) (content (line_of ((held_node table s values c bs).clients c)))
  unfolding view
  held_answer_lem P bs l e b z low x =
      let n = view table s values in
      subst₂ P
      (line_view table (next_clients s r) values z c low
      ∙ ap (λ (n : Node). with_count n c (lines_counted ((view table s values).counts c) 1)) (client_view table s values b)
      ∙ sym (taken_same n c bs))
      (sym (ap (λ (y : Client). content (line_of y)) (put_at n.clients c (receive (n.clients c) bs)) ∙ e))
      x

-- a piece with a line feed: a is what answering its line leaves
module _ (table : List ℕ) (s : State) (values outbox : List ℕ) (c t : ℕ) where
  fed : (bs : List ℕ) (n : Node) → has_feed bs ≡ true → effect (table_of table) n (Piece c bs t)
      ≡ record {
        next = (answer (table_of table) (with_client n c (receive (n.clients c) (before_feed bs))) c t).0;
        settings = answer_sets (table_of table) (with_client n c (receive (n.clients c) (before_feed bs))) c t;
        used = length (before_feed bs) + 1;
        records = (answer (table_of table) (with_client n c (receive (n.clients c) (before_feed bs))) c t).1;
      }
  unfolding effect piece_effect used_of ended ended_sets
  fed bs n f = rw f refl

  pub feeds : (bs : List ℕ) → has_feed bs ≡ true → (a : Answered) (values' outbox' : List ℕ)
      → AnswersEnded table s values outbox c a values' outbox' (answer (table_of table) (held_node table s values c (before_feed bs)) c t)
      (answer_sets (table_of table) (held_node table s values c (before_feed bs)) c t)
      → (steps : ℕ)
      → Leaves table s values (Piece c bs t) outbox
      (done_with (length (before_feed bs) + 1) a.written steps (lined a.state s.clients.lines)) values' outbox'
  unfolding outbox_after written places_after
  feeds bs f a values' outbox' y steps =
      let g = sym (fed bs (view table s values) f) in
      record {
        number = refl;
        used = ap (λ (z : Effect). z.used) g;
        writes = y.puts.ends ∙ zero-add _ ∙ ap (λ (z : Effect). written z.records) g;
        sends = y.puts.is ∙ ap (λ (z : Effect). outbox_after outbox z.records) g;
        area = y.area ∙ ap (λ (z : Effect). area_with values z.settings) g;
        settings = y.settings ∙ ap (λ (z : Effect). settings_with s.settings z.settings) g;
        node = y.node ∙ ap (λ (z : Effect). z.next) g;
        fit = y.fit;
        clients = rw f (ap (λ (b : Brief). with_lines b s.clients.lines) y.clients);
      }
