-- `line::named::at_command` meets its contract. Assumes nothing.
use mathlib.Core.Bool.{true}
use mathlib.Core.Path.{◌≡◌, refl, subst}
use Rattle.table.specs.Layout.{table_of}
use Rattle.message.specs.declared.line.Verb.TheVariants as Verb
use Rattle.plain.specs.Answer.{does, outcome}
use Rattle.line.specs.Clauses.Asked.{is_built}
use Rattle.line.proofs.Sought.{lacks, command_comes}
use Rattle.line.proofs.named.at_command.Goals as goal

pub returns-in-Execute : goal.returns-in-Execute
unfolding outcome
returns-in-Execute c = let came = c.execute in
    λ n values.
    rw c.in-Execute.is
    (command_comes c.args.table.now c.args.«module».now c.args.name.now _ _ _ c.requires.1.1.0
    c.args.out.now c.args.client c.args.time
    c.execute.result c.execute.new.out (λ w n d t. does w n d t c.args.text.now) c.execute.ensures n values)

pub returns-in-Read : goal.returns-in-Read
returns-in-Read c = let located = c.requires.1.1.0 in
    λ n values.
    rw c.in-Read.is
    (lacks c.args.table.now c.args.«module».now c.args.name.now Verb.Read c.args.text.now n _ _ _ values refl
    c.requires.1.1.0.home c.requires.1.1.0.parameter)

pub returns-in-Change : goal.returns-in-Change
returns-in-Change c = let located = c.requires.1.1.0 in
    λ n values.
    rw c.in-Change.is
    (lacks c.args.table.now c.args.«module».now c.args.name.now Verb.Change c.args.text.now n _ _ _ values refl
    c.requires.1.1.0.home c.requires.1.1.0.parameter)

pub returns-in-Check : goal.returns-in-Check
returns-in-Check c = let located = c.requires.1.1.0 in
    λ n values.
    rw c.in-Check.is
    (lacks c.args.table.now c.args.«module».now c.args.name.now Verb.Check c.args.text.now n _ _ _ values
    (subst (λ v. is_built (table_of c.args.table.now) v ≡ true) c.in-Check.is c.requires.1.1.1) c.requires.1.1.0.home c.requires.1.1.0.parameter)
