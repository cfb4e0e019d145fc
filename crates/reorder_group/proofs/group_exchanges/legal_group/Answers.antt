use Rattle.std.proofs.Common.{inl, refl}
use Rattle.reorder_group.proofs.group_exchanges.legal_group.Goals as goal

pub returns-in-None-clause-refused : goal.returns-in-None-clause-refused
returns-in-None-clause-refused c = inl (c.in-None.ensures.none, refl)
