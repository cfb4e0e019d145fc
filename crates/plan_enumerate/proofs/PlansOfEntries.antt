-- The plan at a place is that of the entry there.
use Rattle.std.proofs.Common.{◌≡◌, ℕ, List, Some, get_or, slice_get}
use Rattle.std.proofs.lemmas.Option.{get_or_from_slice_get}
use Rattle.plan_trees.specs.Plans.{leaf}
use Rattle.plan_enumerate.specs.declared.entries.Entry.{Entry}
use Rattle.plan_enumerate.specs.Listing.{IsListed, plans_of}
use Rattle.plan_enumerate.proofs.LongerLists.{IsAt-entry}

pub plan_listed : (es : List Entry) (n : ℕ) (e : Entry) → slice_get es n ≡ Some e → IsListed e.plan es
plan_listed es n e h = (n, IsAt-entry es n e h)

pub plan_there : (es : List Entry) (n : ℕ) (e : Entry) → slice_get es n ≡ Some e → get_or (plans_of es) n (leaf 0) ≡ e.plan
plan_there es n e h = get_or_from_slice_get (plans_of es) n e.plan (leaf 0) (IsAt-entry es n e h)
