-- Where bytes are refused for prefixes, depth or attributes, they have a continuation up to and with the byte at the place.
use Rattle.std.proofs.Common.{◌≡◌, ℕ, ◌+◌, ◌<◌, ◌≤◌, Bool, true, false, cond, ◌&&◌, ◌==◌, nat_lt, ◌⊎◌, inl, inr, Option, Some, None}
use Rattle.std.proofs.Common.{Err}
use Rattle.std.proofs.Common.{List, [], ◌∷◌, ◌++◌, take, refl, sym, ap, subst, ◌∙◌, arith, append_assoc, true≢false}
use Rattle.std.proofs.lemmas.Bool.{ltb-true, and_parts, cond-true, cond-false, cases_lt}
use Rattle.ba_tree.specs.declared.trees.Tree.{Tree}
use Rattle.ba_xml_places.proofs.Earlier.{first_dead}
use Rattle.ba_xml_places.proofs.Exact.{IsKept, IsWhy, same_fault, fault_reason, ok_fault, stop, why, reached_before}
use Rattle.ba_xml_places.proofs.LimitSteps.{limit_follows}
use Rattle.ba_xml_places.proofs.Live.{is_plain, ArePlain}
use Rattle.ba_xml_places.proofs.Octets.{low_between}
use Rattle.ba_xml_places.proofs.Utf8.{IsOfOctets, of_octets}
use Rattle.ba_xml_places.proofs.Viable.{IsReached, Closing, IsGoing, plain_printed, plain_octets, continued, going}
use Rattle.ba_xml_reader.proofs.CompleteCharacters.{octets}
use Rattle.ba_xml_reader.proofs.CompleteFronts.{IsLimit}
use Rattle.ba_xml_reader.proofs.SoundBack.{back}
use Rattle.ba_xml_reader.proofs.SoundDocuments.{top}
use Rattle.ba_xml_places.proofs.Leads.{Goes}
use Rattle.ba_xml_grammar.specs.GrammarTexts.{IsWellFormed, CanContinue}
use Rattle.ba_xml_grammar.specs.Places.{IsDead}
use Rattle.ba_xml_reader.specs.inside.Machine.{start, run, state_after, line_end, unless_returned, finished, answer_by, answer_of}
use Rattle.ba_xml_reader.specs.inside.Machine.{xml_answer}
use Rattle.ba_xml_words.specs.inside.Octets.{octet_after}
use Rattle.ba_xml_words.specs.declared.faults.Reason.{Reason}
use Rattle.ba_xml_words.specs.declared.faults.Reason.TheVariants as reason
use Rattle.ba_xml_words.specs.declared.faults.XmlFault.TheVariants as fault
use Rattle.ba_xml_words.specs.declared.octets.Decoding.TheVariants as decoding
use Rattle.ba_xml_words.specs.declared.octets.Octet.{Octet}
use Rattle.ba_xml_words.specs.declared.octets.Octet.TheVariants.{Between}
use Rattle.ba_xml_reader.specs.declared.machine.Scan.{Scan}
use Rattle.ba_xml_reader.specs.declared.states.Mode.TheVariants as mode
use Rattle.ba_xml_reader.specs.declared.states.State.{State}
use Rattle.ba_xml_reader.specs.declared.states.State.TheVariants as state
use Rattle.ba_xml_reader.specs.inside.Readings.{Reading, Refused, Going}

-- reasons of tags
abbrev pub IsOfTags : Reason → Type 0
IsOfTags reason.Namespace = Unit {0}
IsOfTags reason.Depth = Unit {0}
IsOfTags reason.Attributes = Unit {0}
IsOfTags _ = ⊥

pub limit_of : (r : Reason) → IsOfTags r → IsLimit r
limit_of reason.Namespace t = tt
limit_of reason.Depth t = tt
limit_of reason.Attributes t = tt
limit_of _ t = absurd t

pub kept_of : (r : Reason) → IsOfTags r → IsKept r
kept_of reason.Namespace t = tt
kept_of reason.Depth t = tt
kept_of reason.Attributes t = tt
kept_of _ t = absurd t

pub no_octets : (r : Reason) → IsOfTags r → IsOfOctets (decoding.Broken r) → ⊥
no_octets reason.Namespace t o = o
no_octets reason.Depth t o = o
no_octets reason.Attributes t o = o
no_octets _ t o = t

-- ---- the run

by_tree : (taken : ℕ) (found : Option Tree) (r : Reason) (n : ℕ) → IsOfTags r → answer_by taken found ≡ Err (fault.At r n) → ⊥
by_tree taken None r n w e = subst IsOfTags (sym (fault_reason reason.Truncated r taken n e)) w
by_tree taken (Some tree) r n w e = ok_fault tree r n e

pub refused_by : (x : Reading) (r : Reason) (n : ℕ) → IsOfTags r → answer_of x ≡ Err (fault.At r n) → x ≡ Refused r n
refused_by (Refused y m) r n w e = same_fault y r m n e
refused_by (Going scan taken) r n w e = absurd (by_tree taken (finished scan) r n w e)

going_not : (s : State) (r : Reason) → IsGoing s → s ≡ state.Refused r → ⊥
going_not s r g e = subst IsGoing e g

-- ---- the byte

-- a plain byte is no line end
pub plain_end : (b : ℕ) → is_plain (line_end b) ≡ true → line_end b ≡ b
plain_end b p = by (b == 13) refl
  where
    no_ten : (b == 13) ≡ true → ⊥
    no_ten e = true≢false (sym p ∙ ap is_plain (cond-true (b == 13) 10 b e))

    by : (q : Bool) → (b == 13) ≡ q → line_end b ≡ b
    by true e = absurd (no_ten e)
    by false e = cond-false (b == 13) 10 b e

module _ (last : Scan) (b : ℕ) (r : Reason) (w : IsOfTags r) (x : IsReached last.octet last.state) (g : IsGoing last.state)
    (p : Octet) (o : octet_after last.octet b ≡ decoding.At p) where
  closing_of : (c : (cs : List ℕ) × ArePlain (line_end b ∷ cs) × Goes last.state (line_end b ∷ cs)) → Closing last.octet last.state
  closing_of c =
      let same : line_end b ≡ b = plain_end b c.1.0 in
      let plain : is_plain b ≡ true = subst (λ y. is_plain y ≡ true) same c.1.0 in
      let next : octet_after last.octet b ≡ decoding.At Between =
      o ∙ ap (λ y. decoding.At y) (low_between last.octet p b (ltb-true b 128 (and_parts (nat_lt b 128) _ plain).0) o) in (
        b ∷ c.0,
        plain_printed (b ∷ c.0) (plain, c.1.1),
        ap (λ d. octets d c.0) next
            ∙ plain_octets c.0 c.1.1,
        subst (λ y. Goes last.state (y ∷ c.0)) same c.2,
      )

  pub refused_state : unless_returned last.state last.returned b ≡ state.Refused r → state_after last.state (line_end b) ≡ state.Refused r
  refused_state e = by (last.returned && b == 10) refl e
    where
      by : (q : Bool) → (last.returned && b == 10) ≡ q → cond q last.state (state_after last.state (line_end b)) ≡ state.Refused r
          → state_after last.state (line_end b) ≡ state.Refused r
      by true q e = absurd (going_not last.state r g e)
      by false q e = e

  pub begun : unless_returned last.state last.returned b ≡ state.Refused r → (cs : List ℕ) × (c : Closing last.octet last.state)
      × (c.0 ≡ b ∷ cs) × (line_end b ≡ b)
  unfolding closing_of
  begun e =
      let c = limit_follows last.state x.0 (line_end b) r g x.1 (refused_state e) (limit_of r w) in
      (c.0, closing_of c, refl, plain_end b c.1.0)

-- ---- the place

pub well_formed : (front : List ℕ) (last : Scan) (n b : ℕ) (r : Reason) → IsOfTags r → run (Going start 0) front ≡ Going last n
    → IsWhy last b r
    → (cs : List ℕ) × IsWellFormed (front ++ b ∷ cs)
well_formed front last n b r w e (inl f) = absurd (no_octets r w (subst (λ d. IsOfOctets d) f (of_octets last.octet b)))
well_formed front last n b r w e (inr f) =
    let y = reached_before front last n e in
    let g : IsGoing last.state = going front start 0 last n tt e in
    let s = back front (top mode.Begin) Between false 0 last n (omega arith) e in
    let c = begun last b r w y.1 g f.0 f.1 f.2 in
    (c.0, subst (λ z. IsWellFormed (front ++ z)) c.2 (continued front last.state last.octet y.0 s.1 c.1))

pub alive : (bytes : List ℕ) (r : Reason) (n : ℕ) → IsOfTags r → xml_answer bytes ≡ Err (fault.At r n) → CanContinue (take (n + 1) bytes)
alive bytes r n w e =
    let i = stop bytes r n (refused_by (run (Going start 0) bytes) r n w e) in
    let f = well_formed (take n bytes) i.1 n i.3 r w i.2 (why i.1 i.3 n r (kept_of r w) i.5) in
    (f.0, subst (λ z. IsWellFormed z) (sym (ap (λ z. z ++ f.0) i.4 ∙ append_assoc (take n bytes) (i.3 ∷ []) f.0)) f.1)

-- no dead place is before it or at it
pub before_dead : (bytes : List ℕ) (r : Reason) (n : ℕ) → IsOfTags r → xml_answer bytes ≡ Err (fault.At r n) → (m : ℕ) → IsDead bytes m
    → n < m
before_dead bytes r n w e m d = by (cases_lt n m)
  where
    same : m ≤ n → n ≤ m → m ≡ n
    same a b = omega (arith, a, b)

    clash : m ≡ n → ⊥
    clash s = (subst (λ k. IsDead bytes k) s d).2 (alive bytes r n w e)

    by : (n < m) ⊎ (m ≤ n) → n < m
    by (inl l) = l
    by (inr h) = absurd (clash (same h (first_dead bytes r n e m d)))
