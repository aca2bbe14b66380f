-- `line::request::outcome` meets its contract: each kind of request has a function of its own. Assumes nothing.
use mathlib.Core.Path.{refl, subst}
use Rattle.ascii.specs.Text.{bytes}
use Rattle.message.specs.Clauses.Parsed.{Inside}
use Rattle.plain.specs.Answer.{outcome}
use Rattle.line.proofs.Carried.{part_short, data_short}
use Rattle.line.proofs.Seeks.{named_located}
use borrow.Author.Rules.{rules}
use Rattle.line.proofs.request.outcome.Goals as goal

pub ping-requires : goal.ping-requires
ping-requires c = let p = c.requires.1.1.0 in
    (c.requires.0.lent.room, (c.requires.1.0, rw c.bytes_of.ensures (part_short c.args.line.now c.args.specifier c.requires.1.1.0.specifier_in c.requires.1.1.0.short)))

pub bytes_of-requires-in-Scoped : goal.bytes_of-requires-in-Scoped
bytes_of-requires-in-Scoped c = subst (Inside c.args.line.now) c.in-Scoped.is c.requires.1.1.0.inside

pub bytes_of-module-requires : goal.bytes_of-module-requires
bytes_of-module-requires c = (subst (Inside c.args.line.now) c.in-Named.is c.requires.1.1.0.inside).0

pub bytes_of-name-requires : goal.bytes_of-name-requires
bytes_of-name-requires c = (subst (Inside c.args.line.now) c.in-Named.is c.requires.1.1.0.inside).1

pub data_of-text-requires : goal.data_of-text-requires
unfolding bytes
data_of-text-requires c = (c.requires.1.1.0.payload_in, refl)

pub named-requires : goal.named-requires
named-requires c = let p = c.requires.1.1.0 in (
  c.requires.0,
  (
    c.requires.1.0,
    (
      rw c.data_of-text.ensures (data_short _ (part_short c.args.line.now c.args.payload c.requires.1.1.0.payload_in c.requires.1.1.0.short)),
      search named_located,
    ),
  ),
)

pub count-requires : goal.count-requires
count-requires c = (search rules, (search rules, search rules))

pub returns-in-Identify : goal.returns-in-Identify
returns-in-Identify c = rw c.in-Identify.is (c.identify.ensures c.args.time _ _)

pub returns-in-Describe : goal.returns-in-Describe
returns-in-Describe c = rw c.in-Describe.is (c.describe.ensures c.args.time _ _)

pub returns-in-Ping : goal.returns-in-Ping
returns-in-Ping c = rw (c.in-Ping.is, ← c.bytes_of.ensures) (c.ping.ensures c.args.table.now _ _)

pub returns-in-All : goal.returns-in-All
returns-in-All c = rw c.in-All.is (c.switch_all.ensures c.args.time)

pub returns-in-Scoped : goal.returns-in-Scoped
returns-in-Scoped c = rw (c.in-Scoped.is, ← c.bytes_of-in-Scoped.ensures) (c.switch_module.ensures c.args.time)

pub returns-in-Named : goal.returns-in-Named
returns-in-Named c = rw (c.in-Named.is, ← c.bytes_of-module.ensures, ← c.bytes_of-name.ensures, ← c.data_of-text.ensures) c.named.ensures

pub returns-in-Count : goal.returns-in-Count
returns-in-Count c = rw c.in-Count.is (c.count.ensures c.args.table.now c.args.values.now c.requires.0)

pub returns-in-Malformed : goal.returns-in-Malformed
unfolding outcome
returns-in-Malformed c = rw c.in-Malformed.is (record { is = refl; quiet = refl; area = refl })
