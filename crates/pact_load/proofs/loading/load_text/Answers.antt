use Rattle.pact_load.proofs.FilesRead.{broken_comes, long_comes, whole_comes}
use Rattle.pact_load.proofs.loading.load_text.Goals as goal

pub returns-in-Ok : goal.returns-in-Ok
returns-in-Ok g c = whole_comes c.args.name.now c.args.limit c.in-Ok.text c.in-Ok.ensures

pub returns-in-Err-Fault : goal.returns-in-Err-Fault
returns-in-Err-Fault g c = broken_comes c.args.name.now c.in_ok-told.told c.args.limit c.in-Err-Fault.field-0 c.in-Err-Fault.field-0-is c.in_ok-told.ensures c.in-Err-Fault.ensures

pub returns-in-Err-Long : goal.returns-in-Err-Long
returns-in-Err-Long g c = long_comes c.args.name.now c.args.limit c.in-Err-Long.field-0 c.too_long.result c.in-Err-Long.field-0-is c.too_long.ensures c.in-Err-Long.ensures
