use Rattle.std.proofs.Common.{◌≡◌, rules}
use Rattle.flow_core.specs.Starting.{first_share}
use Rattle.flow_core.proofs.LongestShares.{first_is_longest}
use Rattle.flow_core.proofs.starting.UnstartedInstances.share_len.Goals as goal

pub returns-in-Some-clause-most : goal.returns-in-Some-clause-most
returns-in-Some-clause-most c = λ p q size at rows unstarted.
    let row = c.args.self.now.held.items in
    let first : c.share_len.result ≡ first_share row = search rules in
    first_is_longest p q size at rows c.share_len.result row first unstarted
