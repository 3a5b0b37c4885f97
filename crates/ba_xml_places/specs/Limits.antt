-- Believe: which reasons to refuse bytes have nothing to do with whether they can be continued.
use Rattle.ba_xml_words.specs.declared.faults.Reason.{Reason}
use Rattle.ba_xml_words.specs.declared.faults.Reason.TheVariants as reason

-- what prefixes mean, and how deep, wide and large a text is
abbrev pub IsOfLimits : Reason → Type 0
IsOfLimits reason.Namespace = Unit {0}
IsOfLimits reason.Depth = Unit {0}
IsOfLimits reason.Attributes = Unit {0}
IsOfLimits reason.Size = Unit {0}
IsOfLimits _ = ⊥
