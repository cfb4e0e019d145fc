use Rattle.std.proofs.Common.{◌<◌, ℕ, List, length, subst}
use Rattle.std.proofs.lemmas.Option.{slice_get_within}
use Rattle.plan_enumerate.specs.declared.entries.Entry.{Entry}
use Rattle.plan_enumerate.specs.Choices.{IsChosen}
use Rattle.plan_enumerate.specs.Listing.{IsAt, plans_of}
use Rattle.plan_enumerate.proofs.LongerLists.{IsAt-entry}
use Rattle.pact_top.proofs.choosing.choose_listed.Goals as goal

pub choose_known-chosen-requires-clause-of : goal.choose_known-chosen-requires-clause-of
choose_known-chosen-requires-clause-of c = c.requires.plans.plans

pub returns : goal.returns
returns c =
    let entries = c.entries.result.now in
    let n = c.choose_known-chosen.result.entry in
    let plan = c.at-plan.result.plan in
    let there = subst (λ (es : List Entry). IsAt es n plan) c.entries.ensures.entries (IsAt-entry entries n c.at-plan.result c.at-plan.ensures) in
    record {
      chosen = subst (λ (counts : List ℕ). IsChosen c.args.program.now (plans_of c.args.listed.now.entries) counts c.args.workers c.choose_known-chosen.result) c.in_ok-counts.ensures c.choose_known-chosen.ensures;
      there = there;
      plan = c.requires.plans.plans plan (n, there);
      answers = c.requires.plans.answers plan (n, there);
      counts = c.in_ok-counts.ensures;
      known = c.requires.known.facts n plan c.table-facts.result.now there c.table-facts.ensures;
      entry = subst (λ (es : List Entry). n < length es) c.entries.ensures.entries (slice_get_within entries n c.at-plan.result c.at-plan.ensures);
      layout = c.choose_known-chosen.ensures.second_within;
    }
