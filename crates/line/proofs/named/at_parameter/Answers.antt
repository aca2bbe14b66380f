-- `line::named::at_parameter` meets its contract. Assumes nothing.
use mathlib.Core.Bool.{true}
use mathlib.Core.Path.{◌≡◌, refl, subst}
use Rattle.table.specs.Layout.{table_of}
use Rattle.message.specs.declared.line.Verb.TheVariants as Verb
use Rattle.plain.specs.Answer.{reads, changes, checks, outcome}
use Rattle.state.specs.Clauses.Bare.{unlined}
use Rattle.line.specs.Clauses.Asked.{is_built}
use Rattle.line.proofs.Sought.{lacks, parameter_comes}
use Rattle.line.proofs.named.at_parameter.Goals as goal

pub returns-in-Read : goal.returns-in-Read
unfolding outcome
returns-in-Read c = let came = c.read in
    rw c.in-Read.is
    (parameter_comes c.args.table.now c.args.«module».now c.args.name.now _ _ _ c.requires.1.1.0
    (unlined c.args.state) c.args.values.now c.args.out.now c.args.client c.args.time
    c.read.result c.args.values.now c.read.new.out reads (c.read.ensures c.args.time))

pub returns-in-Change : goal.returns-in-Change
unfolding outcome
returns-in-Change c = let came = c.change in
    rw c.in-Change.is
    (parameter_comes c.args.table.now c.args.«module».now c.args.name.now _ _ _ c.requires.1.1.0
    (unlined c.args.state) c.args.values.now c.args.out.now c.args.client c.args.time
    c.change.result c.change.new.values c.change.new.out (λ w n d t. changes w n d t c.args.text.now) c.change.ensures)

pub returns-in-Execute : goal.returns-in-Execute
returns-in-Execute c = let located = c.requires.1.1.0 in
    rw c.in-Execute.is
    (lacks c.args.table.now c.args.«module».now c.args.name.now Verb.Execute c.args.text.now _ _ _ _ _ refl
    c.requires.1.1.0.home c.requires.1.1.0.command)

pub returns-in-Check : goal.returns-in-Check
unfolding outcome
returns-in-Check c = let came = c.check in
    let told = c.in-Check.is in
    rw (told, subst (λ v. is_built (table_of c.args.table.now) v ≡ true) told c.requires.1.1.1.0)
    (parameter_comes c.args.table.now c.args.«module».now c.args.name.now _ _ _ c.requires.1.1.0
    (unlined c.args.state) c.args.values.now c.args.out.now c.args.client c.args.time
    c.check.result c.args.values.now c.check.new.out (λ w n d t. checks w n d t c.args.text.now) c.check.ensures)
