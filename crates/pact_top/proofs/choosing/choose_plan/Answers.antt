use Rattle.pact_top.proofs.choosing.choose_plan.Goals as goal

pub choose_listed-requires-clause-plans : goal.choose_listed-requires-clause-plans
choose_listed-requires-clause-plans c = record { plans = c.in_ok-listed.ensures.plans; answers = c.in_ok-listed.ensures.answers }

pub returns : goal.returns
returns c =
    let p = c.in_ok-best.ensures in
    record {
      choice = record { listing = c.in_ok-listed.ensures.listing; chosen = p.chosen; plan = p.there };
      plan = p.plan;
      answers = p.answers;
      known = p.known;
      counts = p.counts;
      entry = p.entry;
      layout = p.layout;
    }
