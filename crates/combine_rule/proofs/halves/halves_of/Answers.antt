use Rattle.std.proofs.Common.{◌∙◌, sym}
use Rattle.combine_rule.proofs.BuiltPartials.{shallow, sender_same, merger_same, sender_ok, merger_ok, are_partials}
use Rattle.combine_rule.proofs.halves.halves_of.Goals as goal

pub sender-requires-clause-front : goal.sender-requires-clause-front
sender-requires-clause-front c = (shallow c.requires.valid c.requires.combinable c.in-Some.ensures.some c.depth-depth.ensures.limit).0

pub sender-requires-clause-inner : goal.sender-requires-clause-inner
sender-requires-clause-inner c = (shallow c.requires.valid c.requires.combinable c.in-Some.ensures.some c.depth-depth.ensures.limit).1

pub merger-requires-clause-front : goal.merger-requires-clause-front
merger-requires-clause-front c = (shallow c.requires.valid c.requires.combinable c.in-Some.ensures.some c.depth-depth.ensures.limit).0

pub merger-requires-clause-rest : goal.merger-requires-clause-rest
merger-requires-clause-rest c = (shallow c.requires.valid c.requires.combinable c.in-Some.ensures.some c.depth-depth.ensures.limit).2

pub seal-requires : goal.seal-requires
seal-requires c =
    let pieces = c.in-Some.ensures.some in
    let register = sym c.spare_register.ensures ∙ c.in-Some-spare_register.is in
    let slots = c.deref.ensures.value ∙ c.in_ok-slots.ensures in
    sender_ok c.requires.valid c.requires.combinable pieces register slots (sender_same c.requires.valid c.requires.combinable pieces register slots c.in_ok-sender.ensures c.in_ok-sender-2.ensures)

pub seal-requires-2 : goal.seal-requires-2
seal-requires-2 c =
    let pieces = c.in-Some.ensures.some in
    let register = sym c.spare_register.ensures ∙ c.in-Some-spare_register.is in
    let slots = c.deref-2.ensures.value ∙ c.in_ok-slots.ensures in
    merger_ok c.requires.valid c.requires.combinable pieces register slots (merger_same c.requires.valid c.requires.combinable pieces register slots c.in_ok-merger.ensures c.in_ok-merger-2.ensures)

pub returns : goal.returns
returns c =
    let valid = c.requires.valid in
    let h = c.requires.combinable in
    let pieces = c.in-Some.ensures.some in
    let register = sym c.spare_register.ensures ∙ c.in-Some-spare_register.is in
    let slots = c.deref.ensures.value ∙ c.in_ok-slots.ensures in
    let slots2 = c.deref-2.ensures.value ∙ c.in_ok-slots.ensures in
    let s = sender_same valid h pieces register slots c.in_ok-sender.ensures c.in_ok-sender-2.ensures in
    let m = merger_same valid h pieces register slots2 c.in_ok-merger.ensures c.in_ok-merger-2.ensures in
    are_partials valid h pieces register slots (c.seal.ensures.function ∙ s) c.seal.ensures.fields (c.seal-2.ensures.function ∙ m) c.seal-2.ensures.fields
