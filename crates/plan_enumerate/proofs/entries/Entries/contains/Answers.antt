use Rattle.std.proofs.Common.{sym, subst, ◌∙◌}
use Rattle.plan_enumerate.specs.Listing.{IsListed}
use Rattle.plan_enumerate.proofs.TableOfPlans.{IsListed-found, found-IsListed}
use Rattle.plan_enumerate.proofs.entries.Entries.contains.Goals as goal

pub returns : goal.returns
returns c = (
  λ h. subst (IsListed c.args.plan.now) c.self.view_is (found-IsListed c.self.inside.origins.entries c.args.plan.now (sym c.contains_key.ensures ∙ h)),
  λ h. c.contains_key.ensures ∙ IsListed-found c.self.inside.origins.entries c.args.plan.now (subst (IsListed c.args.plan.now) (sym c.self.view_is) h),
)
