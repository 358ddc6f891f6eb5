use Rattle.std.proofs.Common.{◌≡◌, rules, subst, sym, MatchOption}
use Rattle.rt_rules.specs.Roster.{InRanges}
use Rattle.rt_rules.specs.First.{IsFirst, HasNone}
use Rattle.rt_rules.specs.Rules.{first}
use Rattle.rt_rules.specs.Code.{kind_of}
use Rattle.rt_rules.proofs.Firsts.{first_found}
use Rattle.rt_rules.proofs.rules.Rules.first.Goals as goal

pub returns-clause-first : goal.returns-clause-first
returns-clause-first c =
    let kind = kind_of c.args.sought in
    let found : c.map.result ≡ first kind c.args.self.now = search rules in
    subst (λ o. MatchOption o (HasNone kind c.args.self.now) (IsFirst kind c.args.self.now)) (sym found)
    (first_found kind c.args.self.now (subst InRanges c.self.view_is c.self.invariant))
