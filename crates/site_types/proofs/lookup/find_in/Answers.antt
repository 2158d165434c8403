use Rattle.site_types.proofs.Finding.{search_found, search_none}
use Rattle.site_types.proofs.lookup.find_in.Goals as goal

pub returns-in-Ok : goal.returns-in-Ok
returns-in-Ok c = search_found c.args.names.now c.requires c.args.name.now c.in-Ok.place _ c.in-Ok.ensures.bound c.in-Ok.ensures.position

pub returns-in-Err : goal.returns-in-Err
returns-in-Err c = search_none c.args.names.now c.requires c.args.name.now c.in-Err.field-0 c.in-Err.ensures.position
