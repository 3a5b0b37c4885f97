use Rattle.ba_xml_writer.specs.Namespaces.{further}
use Rattle.ba_xml_writer.proofs.Resolved.{spelled_by, scope_differ, resolves, few_further, named}
use Rattle.ba_xml_writer.proofs.laws.prefixes_resolve.Goals as goal

pub returns : goal.returns
returns c = record {
  spelled = spelled_by;
  differ = λ t w. scope_differ (further t) (few_further t w);
  resolved = λ t s p w. resolves (further t) s p (few_further t w);
  named = named;
}
