-- `line::scoped::switch_module` meets its contract. Assumes nothing.
use Rattle.report.proofs.Faults.{accepted_readable}
use Rattle.state.specs.Clauses.Bare.{unlined}
use Rattle.switch.proofs.Switches.{open_bits}
use Rattle.line.proofs.Carried.{mask_low}
use Rattle.line.proofs.Sought.{no_module, module_scoped, module_low, module_comes}
use Rattle.line.proofs.scoped.switch_module.Goals as goal

pub find_module-requires : goal.find_module-requires
find_module-requires c = search accepted_readable

pub returns-in_default : goal.returns-in_default
returns-in_default c = λ t. no_module _ _ _ c.find_module.ensures c.in_default.is c.args.switch _ _ t _ _

pub activate-requires : goal.activate-requires
activate-requires c = (c.requires, module_scoped _ _ _ c.find_module.ensures _ _ c.in-Some.is c.requires.lent.accepted)

pub deactivate-requires : goal.deactivate-requires
deactivate-requires c = (c.requires.lent.room, module_low _ _ _ c.find_module.ensures _ _ c.in-Some.is c.requires.lent.accepted)

pub returns-in-On : goal.returns-in-On
returns-in-On c = let came = c.activate in
    λ t.
    module_comes c.args.table.now c.args.«module».now _ c.find_module.ensures _ _ c.in-Some.is c.args.switch
    (unlined c.args.state) c.args.values.now c.args.out.now c.args.client t
    c.activate.result c.args.values.now c.activate.new.out
    (rw c.in-On.is (c.activate.ensures t))

pub returns-in-Off : goal.returns-in-Off
returns-in-Off c = let table = c.args.table.now in
    let values = c.args.values.now in
    let came = c.deactivate in
    λ t.
    module_comes table c.args.«module».now _ c.find_module.ensures _ _ c.in-Some.is c.args.switch
    (unlined c.args.state) values c.args.out.now c.args.client t c.deactivate.result values c.deactivate.new.out
    (rw c.in-Off.is
    (c.deactivate.ensures _ _ t _
    (mask_low table (unlined c.args.state) values c.args.out.now c.args.client c.requires)
    (open_bits table (unlined c.args.state) values c.args.client c.requires.is_open)))
