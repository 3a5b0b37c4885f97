use Rattle.ba_xml_names.proofs.OpeningRules.{by_rule, only_rule}
use Rattle.ba_xml_names.proofs.laws.start_tags_mean_by_the_rules.Goals as goal

pub returns-clause-rule : goal.returns-clause-rule
returns-clause-rule c = by_rule

pub returns-clause-only : goal.returns-clause-only
returns-clause-only c = only_rule
