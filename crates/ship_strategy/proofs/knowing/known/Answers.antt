use Rattle.ship_strategy.proofs.knowing.known.Goals as goal

pub known_after-requires : goal.known_after-requires
known_after-requires c = record { seen = c.nothing-seen.ensures c.args.program.now }
