-- What a refusal says, reason by reason: its place is one of the table, and where it isn't of what is written the bytes live on.
use Rattle.std.proofs.Common.{◌≡◌, ◌≢◌, ℕ, ◌+◌, ◌<◌, Err, List, take, refl}
use Rattle.ba_xml_places.proofs.Alive.{alive, before_dead}
use Rattle.ba_xml_places.proofs.Causes.{unexplained, too_deep, one_too_many}
use Rattle.ba_xml_places.proofs.Exact.{utf8_cause, syntax_cause}
use Rattle.ba_xml_places.proofs.Sizes.{too_large, large_alive, large_before_dead}
use Rattle.ba_xml_grammar.specs.GrammarTexts.{CanContinue}
use Rattle.ba_xml_grammar.specs.Places.{IsCause, IsDead}
use Rattle.ba_xml_places.specs.Limits.{IsOfLimits}
use Rattle.ba_xml_reader.specs.inside.Machine.{xml_answer}
use Rattle.ba_xml_words.specs.declared.faults.Reason.{Reason}
use Rattle.ba_xml_words.specs.declared.faults.Reason.TheVariants as reason
use Rattle.ba_xml_words.specs.declared.faults.XmlFault.TheVariants as fault

pub has_cause : (bytes : List ℕ) (r : Reason) (n : ℕ) → xml_answer bytes ≡ Err (fault.At r n) → r ≢ reason.Truncated → IsCause bytes r n
has_cause bytes reason.NotUtf8 n e o = utf8_cause bytes n e
has_cause bytes reason.Syntax n e o = syntax_cause bytes n e
has_cause bytes reason.Truncated n e o = absurd (o refl)
has_cause bytes reason.Namespace n e o = unexplained bytes n e
has_cause bytes reason.Depth n e o = too_deep bytes n e
has_cause bytes reason.Size n e o = too_large bytes n e
has_cause bytes reason.Attributes n e o = one_too_many bytes n e

pub lives_on : (bytes : List ℕ) (r : Reason) (n : ℕ) → xml_answer bytes ≡ Err (fault.At r n) → IsOfLimits r
    → CanContinue (take (n + 1) bytes)
lives_on bytes reason.Namespace n e l = alive bytes reason.Namespace n tt e
lives_on bytes reason.Depth n e l = alive bytes reason.Depth n tt e
lives_on bytes reason.Attributes n e l = alive bytes reason.Attributes n tt e
lives_on bytes reason.Size n e l = large_alive bytes n e
lives_on bytes _ n e l = absurd l

pub dies_later : (bytes : List ℕ) (r : Reason) (n : ℕ) → xml_answer bytes ≡ Err (fault.At r n) → IsOfLimits r
    → (m : ℕ) → IsDead bytes m → n < m
dies_later bytes reason.Namespace n e l = before_dead bytes reason.Namespace n tt e
dies_later bytes reason.Depth n e l = before_dead bytes reason.Depth n tt e
dies_later bytes reason.Attributes n e l = before_dead bytes reason.Attributes n tt e
dies_later bytes reason.Size n e l = large_before_dead bytes n e
dies_later bytes _ n e l = absurd l
