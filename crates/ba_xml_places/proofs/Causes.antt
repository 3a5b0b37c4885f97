-- Where bytes are refused for prefixes, depth or attributes, a start tag at the place is the cause, as the table says.
use Rattle.std.proofs.Common.{◌≡◌, ℕ, ◌+◌, ◌<◌, ◌⊎◌, inl, inr, Err, List, [], ◌∷◌, ◌++◌, take, sym, ap, subst, ◌∙◌, arith}
use Rattle.std.proofs.Common.{append_assoc, length, false}
use Rattle.std.specs.Prelude.{Contains}
use Rattle.ba_xml_places.proofs.Alive.{IsOfTags, kept_of, no_octets, refused_by, begun, refused_state}
use Rattle.ba_xml_places.proofs.Exact.{IsWhy, why, reached_before}
use Rattle.ba_xml_places.proofs.Exact as exact
use Rattle.ba_xml_places.proofs.Least.{owned}
use Rattle.ba_xml_places.proofs.Standings.{IsCauseAt}
use Rattle.ba_xml_places.proofs.Stops.{goes_on, stops, halts, over, IsFoundAt, document_or}
use Rattle.ba_xml_places.proofs.Stops as found
use Rattle.ba_xml_places.proofs.Utf8.{IsOfOctets, of_octets}
use Rattle.ba_xml_places.proofs.Viable.{IsGoing, continued, going, lines_joined}
use Rattle.ba_xml_reader.proofs.SoundBack.{back}
use Rattle.ba_xml_reader.proofs.SoundDocuments.{top}
use Rattle.ba_xml_grammar.specs.Grammar.{Document, written_document, written_tag}
use Rattle.ba_xml_grammar.specs.GrammarTexts.{lines, IsWrittenAs, IsWellFormed}
use Rattle.ba_xml_grammar.specs.Places.{Standing, document_standings, EndsLine, IsCause}
use Rattle.ba_xml_reader.specs.inside.Machine.{start, run, state_after, xml_answer}
use Rattle.ba_xml_words.specs.declared.faults.Reason.{Reason}
use Rattle.ba_xml_words.specs.declared.faults.Reason.TheVariants as reason
use Rattle.ba_xml_words.specs.declared.faults.XmlFault.TheVariants as fault
use Rattle.ba_xml_words.specs.declared.octets.Octet.TheVariants.{Between}
use Rattle.ba_xml_reader.specs.declared.machine.Scan.{Scan}
use Rattle.ba_xml_reader.specs.declared.states.Mode.TheVariants as mode
use Rattle.ba_xml_reader.specs.declared.states.State.TheVariants as state
use Rattle.ba_xml_reader.specs.inside.Readings.{Going}

-- a document that these bytes and this one begin, and a start tag of it that is the cause where they stand
abbrev IsTagCause : List ℕ → ℕ → Reason → Type 0
IsTagCause front b r = (cs : List ℕ) × (d : Document) × IsWrittenAs (front ++ b ∷ cs) d × (t : Standing) × Contains (document_standings d) t
    × (left : List ℕ) × IsCauseAt r t left × (lines false front ++ left ≡ written_document d)

same_reason : (q r : Reason) (xs ys : List ℕ) → stops q xs ≡ stops r ys → q ≡ r
same_reason q r xs ys e = cc

same_left : (q r : Reason) (xs ys : List ℕ) → stops q xs ≡ stops r ys → xs ≡ ys
same_left q r xs ys e = cc

no_stop : (r : Reason) (xs : List ℕ) → goes_on ≡ stops r xs → ⊥
no_stop r xs e = cc

found_cause : (front : List ℕ) (b : ℕ) (cs : List ℕ) (d : Document) (r : Reason) → IsWrittenAs (front ++ b ∷ cs) d
    → lines false front ++ b ∷ cs ≡ written_document d → found.stop (top mode.Begin) (written_document d) ≡ stops r (b ∷ cs)
    → (found.stop (top mode.Begin) (written_document d) ≡ goes_on) ⊎ IsFoundAt (document_standings d) (top mode.Begin) (written_document d)
    → IsTagCause front b r
found_cause front b cs d r w e s (inl f) = absurd (no_stop r (b ∷ cs) (sym f ∙ s))
found_cause front b cs d r w e s (inr f) =
    let both : stops f.0 f.1 ≡ stops r (b ∷ cs) = sym f.2 ∙ s in (
      cs,
      d,
      w,
      f.3,
      f.4,
      f.1,
      subst (λ q. IsCauseAt q f.3 f.1) (same_reason f.0 r f.1 (b ∷ cs) both) f.5,
      ap (λ x. lines false front ++ x) (same_left f.0 r f.1 (b ∷ cs) both) ∙ e,
    )

tag_cause : (front : List ℕ) (last : Scan) (n b : ℕ) (r : Reason) → IsOfTags r → run (Going start 0) front ≡ Going last n → IsWhy last b r
    → IsTagCause front b r
tag_cause front last n b r w e (inl f) = absurd (no_octets r w (subst (λ d. IsOfOctets d) f (of_octets last.octet b)))
tag_cause front last n b r w e (inr f) =
    let y = reached_before front last n e in
    let g : IsGoing last.state = going front start 0 last n tt e in
    let s = back front (top mode.Begin) Between false 0 last n (omega arith) e in
    let c = begun last b r w y.1 g f.0 f.1 f.2 in
    let d : IsWellFormed (front ++ b ∷ c.0) = subst (λ z. IsWellFormed (front ++ z)) c.2
    (continued front last.state last.octet y.0 s.1 c.1) in
    let joined : lines false front ++ b ∷ c.0 ≡ written_document d.0 =
    sym (subst (λ z. lines false (front ++ z) ≡ lines false front ++ z) c.2 (lines_joined front c.1.0 false c.1.1)) ∙ d.1.2 in
    let refused : state_after last.state b ≡ state.Refused r =
    subst (λ z. state_after last.state z ≡ state.Refused r) c.3 (refused_state last b r w y.1 g f.0 f.1 f.2) in
    found_cause front b c.0 d.0 r d.1 joined
    (ap (λ z. found.stop (top mode.Begin) z) (sym joined) ∙ over (lines false front) (top mode.Begin) last.state (b ∷ c.0) s.1 g
    ∙ halts last.state b c.0 r refused)
    (document_or d.0 d.1.1)

-- ---- the causes of the table

module _ (bytes : List ℕ) (n : ℕ) where
  abbrev IsPlaced : Reason → ℕ → Type 0
  IsPlaced r b = (n < length bytes) × (take (n + 1) bytes ≡ take n bytes ++ b ∷ []) × IsTagCause (take n bytes) b r

  whole_front : (b : ℕ) (cs : List ℕ) (d : Document) → take (n + 1) bytes ≡ take n bytes ++ b ∷ [] → IsWrittenAs (take n bytes ++ b ∷ cs) d
      → IsWrittenAs (take (n + 1) bytes ++ cs) d
  whole_front b cs d e w = subst (λ x. IsWrittenAs x d) (sym (ap (λ x. x ++ cs) e ∙ append_assoc (take n bytes) (b ∷ []) cs)) w

  -- the bytes before the place, and then what is left
  left_at : (d : Document) (xs ys : List ℕ) → xs ≡ ys → lines false (take n bytes) ++ xs ≡ written_document d
      → lines false (take n bytes) ++ ys ≡ written_document d
  left_at d xs ys e l = ap (λ x. lines false (take n bytes) ++ x) (sym e) ∙ l

  namespace_cause : (b : ℕ) → (EndsLine bytes n → ⊥) → IsPlaced reason.Namespace b → IsCause bytes reason.Namespace n
  namespace_cause b own q = let l = q.0 in let e = q.1 in let x = q.2 in
      (x.1, (l, x.0, whole_front b x.0 x.1 e x.2), x.3, x.4, (x.6.0, (left_at x.1 x.5 x.3.closing x.6.1 x.7, own)))

  depth_cause : (b : ℕ) → (EndsLine bytes n → ⊥) → IsPlaced reason.Depth b → IsCause bytes reason.Depth n
  depth_cause b own q = let l = q.0 in let e = q.1 in let x = q.2 in (
    x.1,
    (l, x.0, whole_front b x.0 x.1 e x.2),
    x.3,
    x.4,
    (x.6.0, (left_at x.1 x.5 (written_tag x.3.start x.3.closing) x.6.1 x.7, own)),
  )

  attributes_cause : (b : ℕ) → (EndsLine bytes n → ⊥) → IsPlaced reason.Attributes b → IsCause bytes reason.Attributes n
  attributes_cause b own q = let l = q.0 in let e = q.1 in let x = q.2 in (
    x.1,
    (l, x.0, whole_front b x.0 x.1 e x.2),
    x.3,
    x.4,
    (x.6.0, x.6.1, x.6.2, x.6.3, x.6.4, (left_at x.1 x.5 _ x.6.5 x.7, own)),
  )

placed : (bytes : List ℕ) (r : Reason) (n : ℕ) → IsOfTags r → xml_answer bytes ≡ Err (fault.At r n) → (b : ℕ) × IsPlaced bytes n r b
placed bytes r n w e =
    let i = exact.stop bytes r n (refused_by (run (Going start 0) bytes) r n w e) in
    (i.3, (i.0, i.4, tag_cause (take n bytes) i.1 n i.3 r w i.2 (why i.1 i.3 n r (kept_of r w) i.5)))

pub unexplained : (bytes : List ℕ) (n : ℕ) → xml_answer bytes ≡ Err (fault.At reason.Namespace n) → IsCause bytes reason.Namespace n
unexplained bytes n e =
    let x = placed bytes reason.Namespace n tt e in namespace_cause bytes n x.0 (owned bytes reason.Namespace n tt e) x.1

pub too_deep : (bytes : List ℕ) (n : ℕ) → xml_answer bytes ≡ Err (fault.At reason.Depth n) → IsCause bytes reason.Depth n
too_deep bytes n e =
    let x = placed bytes reason.Depth n tt e in depth_cause bytes n x.0 (owned bytes reason.Depth n tt e) x.1

pub one_too_many : (bytes : List ℕ) (n : ℕ) → xml_answer bytes ≡ Err (fault.At reason.Attributes n) → IsCause bytes reason.Attributes n
one_too_many bytes n e =
    let x = placed bytes reason.Attributes n tt e in attributes_cause bytes n x.0 (owned bytes reason.Attributes n tt e) x.1
