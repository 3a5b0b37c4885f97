-- The envelope of short texts, parameters that fit and a small body can be written: for the laws on envelopes.
use Rattle.std.proofs.Common.{◌≡◌, ℕ, ◌+◌, ◌≤◌, true, List, [], ◌∷◌, ◌++◌, Option, Some, None, IfSome, map, length}
use Rattle.std.proofs.Common.{codes, append-nil, refl, sym, ap, ◌∙◌, subst, arith}
use Rattle.ba_soap.specs.declared.headers.Envelope.{Envelope}
use Rattle.ba_soap.specs.declared.headers.Header.{Header}
use Rattle.ba_soap.specs.declared.headers.Header.TheVariants as header
use Rattle.ba_message.specs.declared.endpoints.Epr.{Epr}
use Rattle.ba_message.specs.Endpoints.{Fits}
use Rattle.ba_soap.specs.Elements.{endpoint_block, envelope_element, envelope_with, header_blocks, marked_tree, none_endpoint}
use Rattle.ba_soap.specs.Elements.{notification_blocks, notification_element, optional_block, source_blocks, text_block}
use Rattle.ba_soap.specs.Envelopes.{header_name, soap11}
use Rattle.ba_tree.specs.declared.trees.Tree.{Tree}
use Rattle.ba_tree.specs.Names.{is_plain_name}
use Rattle.ba_tree.specs.Trees.{firsts}
use Rattle.ba_tree.proofs.SpaceLaws.{append_assoc}
use Rattle.ba_xml_writer.specs.Writable.{IsWritable}
use Rattle.ba_wire_limits.proofs.BriefTexts.{brief_said}
use Rattle.ba_wire_limits.proofs.SoundEndpoints.{sound_endpoint}
use Rattle.ba_wire_limits.proofs.SoundNames.{soap_is, wsa_is}
use Rattle.ba_wire_limits.proofs.SoundTrees.{AllSound, IsSaid, Sound, all_wider, further_named, more_sound, none_sound, sound_element}
use Rattle.ba_wire_limits.proofs.SoundTrees.{sound_text, wider}
use Rattle.ba_wire_limits.proofs.WritableTrees.{writable_by}

-- ---- header blocks

-- a text that an envelope has room for beside the others
pub record IsShort (text : List ℕ) : Type 0 where
  pub said : IsSaid text
  pub short : length text ≤ 1024

pub header_plain : (h : Header) → is_plain_name (header_name h) ≡ true
header_plain header.To = refl
header_plain header.From = refl
header_plain header.ReplyTo = refl
header_plain header.FaultTo = refl
header_plain header.Action = refl
header_plain header.MessageID = refl
header_plain header.RelatesTo = refl

header_brief : (h : Header) → length (header_name h) ≤ 9
header_brief header.To = omega arith
header_brief header.From = omega arith
header_brief header.ReplyTo = omega arith
header_brief header.FaultTo = omega arith
header_brief header.Action = omega arith
header_brief header.MessageID = omega arith
header_brief header.RelatesTo = omega arith

sound_block : (h : Header) (text : List ℕ) → IsShort text → Sound (text_block h text) 1 1100 []
sound_block h text is =
    let brief = header_brief h in
    let short = is.short in
    wider 1 1100 (sound_text (wsa_is (header_name h) (header_plain h)) is.said) (omega arith) (omega arith)

-- a block and what stands after it
sound_before : (h : Header) (text : List ℕ) → IsShort text → {ts : List Tree} {size : ℕ} {xs : List (List ℕ)}
    → AllSound ts 18 size xs → AllSound (text_block h text ∷ ts) 18 (1101 + size) xs
sound_before h text is {ts} {size} all =
    all_wider 18 (1101 + size) (more_sound (sound_block h text is) all) (omega arith) (omega arith)

sound_option : (h : Header) (o : Option (List ℕ)) → IfSome o IsShort → {ts : List Tree} {size : ℕ} {xs : List (List ℕ)}
    → AllSound ts 18 size xs → AllSound (optional_block h o ++ ts) 18 (1101 + size) xs
sound_option h None is {ts} {size} all = all_wider 18 (1101 + size) all (omega arith) (omega arith)
sound_option h (Some text) is all = sound_before h text is all

-- the endpoint of a source, which has no parameters
sound_source : (source : Epr) → Fits source → source.parameters ≡ [] → Sound (endpoint_block header.From source) 18 4400 []
sound_source source fits alone =
    let s = wider 18 4400 (sound_endpoint (wsa_is (header_name header.From) refl) source fits) (omega arith) (omega arith) in
    subst (λ ps. Sound (endpoint_block header.From source) 18 4400 (further_named ps)) alone s

sound_none : Sound (endpoint_block header.ReplyTo none_endpoint) 2 400 []
sound_none =
    let address = sound_text (wsa_is (codes "Address") refl) (brief_said none_endpoint.address refl) in
    wider 2 400 (sound_element (wsa_is (header_name header.ReplyTo) refl) (more_sound address none_sound)) (omega arith) (omega arith)

-- ---- the envelope of blocks and a body that are small together

writable_with :
    {blocks : List Tree} {body : Tree} {size more : ℕ} {marked named : List (List ℕ)} → AllSound blocks 18 size marked
    → Sound body 21 more named → size + more ≤ 19000 → length (firsts (marked ++ named)) ≤ 28
    → IsWritable (envelope_with soap11 blocks body)
writable_with {blocks} {body} {size} {more} {marked} {named} above inside small few =
    let first = sound_element (soap_is (codes "Header") refl) above in
    let second = sound_element (soap_is (codes "Body") refl) (more_sound inside none_sound) in
    let both = more_sound first (more_sound second none_sound) in
    let whole : Sound (envelope_with soap11 blocks body) 23 (size + more + 700) (marked ++ ((named ++ []) ++ [])) =
    wider 23 (size + more + 700) (sound_element (soap_is (codes "Envelope") refl) both) (omega arith) (omega arith) in
    let same : length (firsts (marked ++ ((named ++ []) ++ []))) ≡ length (firsts (marked ++ named)) =
    ap (λ l. length (firsts (marked ++ l))) (append-nil (named ++ []) ∙ append-nil named) in
    writable_by whole (omega arith) (omega arith) (omega arith) refl

-- what an envelope says, and that each of its texts is short
pub record IsSmall (e : Envelope) : Type 0 where
  pub to : IfSome e.to IsShort
  pub action : IsShort e.action
  pub message_id : IfSome e.message_id IsShort
  pub relates_to : IfSome e.relates_to IsShort

module _ (e : Envelope) (small : IsSmall e) {marked : List (List ℕ)}
    (parameters : AllSound (map marked_tree e.parameters) 16 5000 marked) where
  blocks_are : header_blocks e
      ≡ optional_block header.To e.to
      ++ (text_block header.Action e.action
      ∷ (optional_block header.MessageID e.message_id
      ++ (optional_block header.RelatesTo e.relates_to ++ map marked_tree e.parameters)))
  blocks_are =
      let to = optional_block header.To e.to in
      let action = text_block header.Action e.action in
      let id = optional_block header.MessageID e.message_id in
      let relates = optional_block header.RelatesTo e.relates_to in
      let last = map marked_tree e.parameters in
      append_assoc to (action ∷ (id ++ relates)) last ∙ ap (λ l. to ++ (action ∷ l)) (append_assoc id relates last)

  after_texts : AllSound (optional_block header.RelatesTo e.relates_to ++ map marked_tree e.parameters) 18 6101 marked
  after_texts =
      let deep = all_wider 18 5000 parameters (omega arith) (omega arith) in
      sound_option header.RelatesTo e.relates_to small.relates_to deep

  sound_blocks : AllSound (header_blocks e) 18 9500 marked
  sound_blocks =
      let numbered = sound_option header.MessageID e.message_id small.message_id after_texts in
      let acted = sound_before header.Action e.action small.action numbered in
      let all = all_wider 18 9500 (sound_option header.To e.to small.to acted) (omega arith) (omega arith) in
      subst (λ ts. AllSound ts 18 9500 marked) (sym blocks_are) all

  pub envelope_writable : {named : List (List ℕ)} → Sound e.body 21 6800 named → length (firsts (marked ++ named)) ≤ 28
      → IsWritable (envelope_element soap11 e)
  envelope_writable body few = writable_with sound_blocks body (omega arith) few

  -- a notification, whose source has no parameters and whose body is small
  module _ (source : Epr) (fits : Fits source) (alone : source.parameters ≡ []) where
    notification_is : notification_blocks source e
        ≡ optional_block header.To e.to
        ++ (text_block header.Action e.action
        ∷ (optional_block header.MessageID e.message_id
        ++ (source_blocks source ++ (optional_block header.RelatesTo e.relates_to ++ map marked_tree e.parameters))))
    notification_is =
        let to = optional_block header.To e.to in
        let action = text_block header.Action e.action in
        let id = optional_block header.MessageID e.message_id in
        let rest = source_blocks source ++ optional_block header.RelatesTo e.relates_to in
        let last = map marked_tree e.parameters in
        append_assoc to (action ∷ (id ++ rest)) last ∙ ap (λ l. to ++ (action ∷ l)) (append_assoc id rest last)

    sound_notification : AllSound (notification_blocks source e) 18 15000 marked
    sound_notification =
        let replied = all_wider 18 6600 (more_sound sound_none after_texts) (omega arith) (omega arith) in
        let sourced = all_wider 18 11100 (more_sound (sound_source source fits alone) replied) (omega arith) (omega arith) in
        let numbered = sound_option header.MessageID e.message_id small.message_id sourced in
        let acted = sound_before header.Action e.action small.action numbered in
        let all = all_wider 18 15000 (sound_option header.To e.to small.to acted) (omega arith) (omega arith) in
        subst (λ ts. AllSound ts 18 15000 marked) (sym notification_is) all

    pub notification_writable : {named : List (List ℕ)} → Sound e.body 21 400 named → length (firsts (marked ++ named)) ≤ 28
        → IsWritable (notification_element soap11 source e)
    notification_writable body few = writable_with sound_notification body (omega arith) few
