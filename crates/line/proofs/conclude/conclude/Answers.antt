-- `line::conclude::conclude` meets its contract. Assumes nothing.
use native.Mathlib.Omega.{arith}
use mathlib.Core.Path.{refl}
use Rattle.line.proofs.Carried.{error_room, fault_room}
use Rattle.line.proofs.Conclusions.{may_deny, may_deny_read, may_store, denies, denies_read, passes, switches, stores}
use Rattle.line.proofs.conclude.conclude.Goals as goal

pub put_final_error-written-requires : goal.put_final_error-written-requires
put_final_error-written-requires c = let d = may_deny c.args.out.now c.args.action.now c.args.specifier.now c.args.came _ c.in-Denied.is c.requires.1 in
    error_room c.args.out.now c.args.client d.room _ _ _ (search d) (search d)

pub put_final_error-written-requires-in-Unreadable : goal.put_final_error-written-requires-in-Unreadable
put_final_error-written-requires-in-Unreadable c = let d = may_deny_read c.args.out.now c.args.action.now c.args.specifier.now c.args.came _ _ c.in-Unreadable.is c.requires.1 in
    fault_room c.args.out.now c.args.client d.room _ _ _ _ (omega arith) (search d) (search d)

pub with_status-first-requires : goal.with_status-first-requires
with_status-first-requires c = (may_store c.args.out.now c.args.action.now c.args.specifier.now c.args.came _ _ _ _ c.in-Stored.is c.requires.1).0

pub stored-next-requires : goal.stored-next-requires
stored-next-requires c = (may_store c.args.out.now c.args.action.now c.args.specifier.now c.args.came _ _ _ _ c.in-Stored.is
    c.requires.1).1

pub returns-in-Denied : goal.returns-in-Denied
returns-in-Denied c = denies c.args.action.now c.args.specifier.now c.args.came c.in-Denied.is
    (record { state = refl; puts = c.put_final_error-written.ensures })

pub returns-in-Unreadable : goal.returns-in-Unreadable
returns-in-Unreadable c = denies_read c.args.action.now c.args.specifier.now c.args.came c.in-Unreadable.is
    (record { state = refl; puts = c.put_final_error-written-in-Unreadable.ensures })

pub returns-in-Sent : goal.returns-in-Sent
returns-in-Sent c = passes c.args.action.now c.args.specifier.now c.args.came c.in-Sent.is
    (record { keeps = record { size = refl; quiet = refl }; state = refl })

pub returns-in-Active : goal.returns-in-Active
returns-in-Active c = switches c.args.action.now c.args.specifier.now c.args.came c.in-Active.is
    (record { keeps = record { size = refl; quiet = refl }; settings = refl; clients = c.with_active-next.ensures; counts = refl })

pub returns-in-Stored : goal.returns-in-Stored
returns-in-Stored c = stores c.args.action.now c.args.specifier.now c.args.came c.in-Stored.is
    (record { keeps = record { size = refl; quiet = refl }; clients = refl; settings = rw (← c.with_status-first.ensures) c.stored-next.ensures; counts = refl })
