-- The answer to bytes is that of the table, and no other is.
use Rattle.std.proofs.Common.{◌≡◌, ℕ, ◌+◌, ◌<◌, ◌≤◌, Bool, true, false, cond, ◌==◌, nat_lt, ◌⊎◌, inl, inr, Option, Some, None, Result, Ok}
use Rattle.std.proofs.Common.{Err, List, ◌++◌, length, take, refl, sym, ap, subst, ◌∙◌, arith}
use Rattle.std.proofs.lemmas.Bool.{cases_lt, ltb-true}
use Rattle.ba_tree.specs.declared.trees.Tree.{Tree}
use Rattle.ba_xml_places.proofs.Causes.{unexplained, too_deep, one_too_many}
use Rattle.ba_xml_places.proofs.Earlier.{none_dead, first_dead, early_alive, text_alive}
use Rattle.ba_xml_places.proofs.Exact.{IsStop, early_taken, stop, utf8_cause, syntax_cause}
use Rattle.ba_xml_places.proofs.Exact as exact
use Rattle.ba_xml_places.proofs.Least.{NoLater, IsRefusedBy, tag_refused}
use Rattle.ba_xml_places.proofs.Sizes.{too_large}
use Rattle.ba_xml_places.proofs.Table.{dies_later, has_cause}
use Rattle.ba_xml_places.specs.inside.Taken.{IsTaken}
use Rattle.ba_xml_reader.proofs.Complete.{complete}
use Rattle.ba_xml_reader.proofs.Dead.{refused_none}
use Rattle.ba_xml_reader.proofs.Kept.{stays}
use Rattle.ba_xml_reader.proofs.Runs.{run_append}
use Rattle.ba_xml_reader.proofs.Sound.{sound}
use Rattle.ba_xml_reader.proofs.SoundBack.{back}
use Rattle.ba_xml_reader.proofs.SoundDocuments.{top}
use Rattle.ba_xml_grammar.specs.Grammar.{written_attribute, written_pairs, written_tag}
use Rattle.ba_xml_grammar.specs.Places.{IsCause, IsDead, IsLeast, IsTruncated, IsRefused, IsAnswerOf, number_of}
use Rattle.ba_xml_reader.specs.inside.Machine.{start, run, turned, counted, reason_at, reason_past, finished, answer_by, answer_of}
use Rattle.ba_xml_reader.specs.inside.Machine.{xml_answer}
use Rattle.ba_xml_words.specs.declared.faults.Reason.{Reason}
use Rattle.ba_xml_words.specs.declared.faults.Reason.TheVariants as reason
use Rattle.ba_xml_words.specs.declared.faults.XmlFault.{XmlFault}
use Rattle.ba_xml_words.specs.declared.faults.XmlFault.TheVariants as fault
use Rattle.ba_xml_words.specs.declared.octets.Octet.TheVariants.{Between}
use Rattle.ba_xml_reader.specs.declared.machine.Scan.{Scan}
use Rattle.ba_xml_reader.specs.declared.states.Mode.TheVariants as mode
use Rattle.ba_xml_reader.specs.inside.Readings.{Reading, Refused, Going}
use Rattle.ba_xml_reader.specs.inside.Turns.{Turn}
use Rattle.ba_xml_reader.specs.inside.Turns as turn

-- ---- what a cause says of the answer

-- the answer is a refusal there at the latest
abbrev IsToldBy : List ℕ → Reason → ℕ → Type 0
IsToldBy bytes q m = (r : Reason) × (n : ℕ) × (xml_answer bytes ≡ Err (fault.At r n)) × NoLater r n q m

told : (bytes : List ℕ) (q : Reason) (m : ℕ) → IsRefusedBy bytes q m → IsToldBy bytes q m
told bytes q m x = (x.0, x.1, ap answer_of x.2, x.3)

namespace_refused : (bytes : List ℕ) (m : ℕ) → IsCause bytes reason.Namespace m → IsRefusedBy bytes reason.Namespace m
namespace_refused bytes m x =
    tag_refused bytes m x.1.0 reason.Namespace x.0 x.2 x.2.closing x.1.1 x.1.2 x.3 (x.4.0, refl) x.4.1.0 x.4.1.1

depth_refused : (bytes : List ℕ) (m : ℕ) → IsCause bytes reason.Depth m → IsRefusedBy bytes reason.Depth m
depth_refused bytes m x =
    tag_refused bytes m x.1.0 reason.Depth x.0 x.2 (written_tag x.2.start x.2.closing) x.1.1 x.1.2 x.3 (x.4.0, refl) x.4.1.0 x.4.1.1

attributes_refused : (bytes : List ℕ) (m : ℕ) → IsCause bytes reason.Attributes m → IsRefusedBy bytes reason.Attributes m
attributes_refused bytes m x =
    tag_refused bytes m x.1.0 reason.Attributes x.0 x.2
    (written_attribute x.4.1 (written_pairs x.4.2 (x.2.start.space ++ x.2.closing))) x.1.1 x.1.2 x.3
    (x.4.0, x.4.1, x.4.2, x.4.3, x.4.4, refl) x.4.5.0 x.4.5.1

-- ---- too many bytes

past_number : (q : Reason) → number_of (reason_past q) ≤ 6
past_number reason.NotUtf8 = omega arith
past_number reason.Syntax = omega arith
past_number reason.Truncated = omega arith
past_number reason.Namespace = omega arith
past_number reason.Depth = omega arith
past_number reason.Size = omega arith
past_number reason.Attributes = omega arith

going_refused : (scan : Scan) (taken n : ℕ) (r : Reason) → Going scan taken ≡ Refused r n → ⊥
going_refused scan taken n r e = cc

-- what is refused at the limit has no higher number than size
full_number : (n : ℕ) (t : Turn) (r : Reason) → n ≡ 262144 → counted n t ≡ Refused r n → number_of r ≤ 6
full_number n (turn.Refused q) r e c = subst (λ x. number_of x ≤ 6) (exact.same_reason (reason_at n q) r n n c) (by (nat_lt n 262144) refl)
  where
    never : nat_lt n 262144 ≡ true → ⊥
    never f = past (ltb-true n 262144 f)
      where
        past : n < 262144 → ⊥
        past l = omega (arith, l, e)

    by : (x : Bool) → nat_lt n 262144 ≡ x → number_of (cond x q (reason_past q)) ≤ 6
    by true f = absurd (never f)
    by false f = past_number q
full_number n (turn.On scan) r e c = by (nat_lt n 262144) refl c
  where
    never : nat_lt n 262144 ≡ true → ⊥
    never f = past (ltb-true n 262144 f)
      where
        past : n < 262144 → ⊥
        past l = omega (arith, l, e)

    by : (x : Bool) → nat_lt n 262144 ≡ x → cond x (Going scan (n + 1)) (Refused reason.Size n) ≡ Refused r n → number_of r ≤ 6
    by true f c = absurd (never f)
    by false f c = subst (λ x. number_of x ≤ 6) (exact.same_reason reason.Size r n n c) (omega arith)

size_refused : (bytes : List ℕ) (m : ℕ) → IsCause bytes reason.Size m → IsRefusedBy bytes reason.Size m
size_refused bytes m c = by (run (Going start 0) bytes) refl
  where
    few : (x n : ℕ) → 0 + x ≡ n → n ≤ 262144 → 262144 < x → ⊥
    few x n e l h = omega (arith, e, l, h)

    same : (n : ℕ) → n ≤ 262144 → 262144 ≤ n → n ≡ 262144
    same n a b = omega (arith, a, b)

    at_stop : (r : Reason) (n : ℕ) → IsStop bytes r n → NoLater r n reason.Size m
    at_stop r n i = by_place (cases_lt n 262144)
      where
        most : n ≤ 262144
        most = (back (take n bytes) (top mode.Begin) Between false 0 i.1 n (omega arith) i.2).3

        by_place : (n < 262144) ⊎ (262144 ≤ n) → NoLater r n reason.Size m
        by_place (inl l) = inl (subst (λ x. n < x) (sym c.1) l)
        by_place (inr l) = inr (same n most l ∙ sym c.1, full_number n (turned i.1 i.3) r (same n most l) i.5)

    by : (x : Reading) → run (Going start 0) bytes ≡ x → IsRefusedBy bytes reason.Size m
    by (Refused r n) e = (r, n, e, at_stop r n (stop bytes r n e))
    by (Going last n) e =
        let b = back bytes (top mode.Begin) Between false 0 last n (omega arith) e in absurd (few (length bytes) n b.2 b.3 c.0)

-- ---- dead places

memory_never : (x : Reading) → answer_of x ≡ Err fault.Memory → ⊥
memory_never (Refused r n) e = by e
  where
    by : (let a : Result Tree XmlFault = Err (fault.At r n) in a) ≡ Err fault.Memory → ⊥
    by e = cc
memory_never (Going scan taken) e = by (finished scan) e
  where
    by : (found : Option Tree) → answer_by taken found ≡ Err fault.Memory → ⊥
    by None e = cc
    by (Some tree) e = cc

-- where a place is dead, the bytes are refused there at the latest
dead_told : (bytes : List ℕ) (q : Reason) (m : ℕ) → IsDead bytes m
    → ((r : Reason) → xml_answer bytes ≡ Err (fault.At r m) → number_of r ≤ number_of q) → IsToldBy bytes q m
dead_told bytes q m d least = by (xml_answer bytes) refl
  where
    same : (n : ℕ) → n ≤ m → m ≤ n → n ≡ m
    same n a b = omega (arith, a, b)

    at_same : (r : Reason) (n : ℕ) → xml_answer bytes ≡ Err (fault.At r n) → n ≡ m → NoLater r n q m
    at_same r n e s = inr (s, least r (subst (λ k. xml_answer bytes ≡ Err (fault.At r k)) s e))

    by_place : (r : Reason) (n : ℕ) → xml_answer bytes ≡ Err (fault.At r n) → (n < m) ⊎ (m ≤ n) → NoLater r n q m
    by_place r n e (inl l) = inl l
    by_place r n e (inr h) = at_same r n e (same n (first_dead bytes r n e m d) h)

    by : (x : Result Tree XmlFault) → xml_answer bytes ≡ x → IsToldBy bytes q m
    by (Ok tree) e = absurd (text_alive bytes tree e m d)
    by (Err fault.Memory) e = absurd (memory_never (run (Going start 0) bytes) e)
    by (Err (fault.At r n)) e = (r, n, e, by_place r n e (cases_lt n m))

never_less : (m : ℕ) → m < m → ⊥
never_less m l = omega (arith, l)

utf8_told : (bytes : List ℕ) (m : ℕ) → IsCause bytes reason.NotUtf8 m → IsToldBy bytes reason.NotUtf8 m
utf8_told bytes m c = dead_told bytes reason.NotUtf8 m c.0 least
  where
    least : (r : Reason) → xml_answer bytes ≡ Err (fault.At r m) → number_of r ≤ 1
    least reason.NotUtf8 e = omega arith
    least reason.Syntax e = absurd (c.1 (syntax_cause bytes m e).1)
    least reason.Truncated e = absurd (early_alive bytes m e m c.0)
    least reason.Namespace e = absurd (never_less m (dies_later bytes reason.Namespace m e tt m c.0))
    least reason.Depth e = absurd (never_less m (dies_later bytes reason.Depth m e tt m c.0))
    least reason.Size e = absurd (never_less m (dies_later bytes reason.Size m e tt m c.0))
    least reason.Attributes e = absurd (never_less m (dies_later bytes reason.Attributes m e tt m c.0))

syntax_told : (bytes : List ℕ) (m : ℕ) → IsCause bytes reason.Syntax m → IsToldBy bytes reason.Syntax m
syntax_told bytes m c = dead_told bytes reason.Syntax m c.0 least
  where
    least : (r : Reason) → xml_answer bytes ≡ Err (fault.At r m) → number_of r ≤ 2
    least reason.NotUtf8 e = omega arith
    least reason.Syntax e = omega arith
    least reason.Truncated e = absurd (early_alive bytes m e m c.0)
    least reason.Namespace e = absurd (never_less m (dies_later bytes reason.Namespace m e tt m c.0))
    least reason.Depth e = absurd (never_less m (dies_later bytes reason.Depth m e tt m c.0))
    least reason.Size e = absurd (never_less m (dies_later bytes reason.Size m e tt m c.0))
    least reason.Attributes e = absurd (never_less m (dies_later bytes reason.Attributes m e tt m c.0))

-- ---- reasons by their numbers

of_number : ℕ → Reason
of_number n = cond (n == 1) reason.NotUtf8 (cond (n == 2) reason.Syntax (cond (n == 3) reason.Truncated (cond (n == 4) reason.Namespace
    (cond (n == 5) reason.Depth (cond (n == 6) reason.Size reason.Attributes)))))

numbered : (r : Reason) → of_number (number_of r) ≡ r
unfolding of_number
numbered reason.NotUtf8 = refl
numbered reason.Syntax = refl
numbered reason.Truncated = refl
numbered reason.Namespace = refl
numbered reason.Depth = refl
numbered reason.Size = refl
numbered reason.Attributes = refl

same_number : (q r : Reason) → number_of q ≡ number_of r → q ≡ r
same_number q r e = sym (numbered q) ∙ ap of_number e ∙ numbered r

-- ---- every cause

cause_told : (bytes : List ℕ) (q : Reason) (m : ℕ) → IsCause bytes q m → IsToldBy bytes q m
cause_told bytes reason.NotUtf8 m c = utf8_told bytes m c
cause_told bytes reason.Syntax m c = syntax_told bytes m c
cause_told bytes reason.Truncated m c = absurd c
cause_told bytes reason.Namespace m c = told bytes reason.Namespace m (namespace_refused bytes m c)
cause_told bytes reason.Depth m c = told bytes reason.Depth m (depth_refused bytes m c)
cause_told bytes reason.Size m c = told bytes reason.Size m (size_refused bytes m c)
cause_told bytes reason.Attributes m c = told bytes reason.Attributes m (attributes_refused bytes m c)

same_reason : (x r : Reason) (m n : ℕ) → (let a : Result Tree XmlFault = Err (fault.At x m) in a) ≡ Err (fault.At r n) → x ≡ r
same_reason x r m n e = cc

same_place : (x r : Reason) (m n : ℕ) → (let a : Result Tree XmlFault = Err (fault.At x m) in a) ≡ Err (fault.At r n) → m ≡ n
same_place x r m n e = cc

-- the refusal that is answered comes first
is_first : (bytes : List ℕ) (r : Reason) (n : ℕ) → xml_answer bytes ≡ Err (fault.At r n) → IsLeast bytes r n
is_first bytes r n e q m c =
    let x = cause_told bytes q m c in
    subst (λ y. NoLater y n q m) (same_reason x.0 r x.1 n (sym x.2 ∙ e))
    (subst (λ k. NoLater x.0 k q m) (same_place x.0 r x.1 n (sym x.2 ∙ e)) x.3)

-- ---- bytes that end too early

refused_going : (r : Reason) (m n : ℕ) (scan : Scan) → Refused r m ≡ Going scan n → ⊥
refused_going r m n scan e = cc

not_refused : (bytes : List ℕ) (q : Reason) (m : ℕ) → IsTaken bytes → IsRefusedBy bytes q m → ⊥
not_refused bytes q m t x = refused_going x.0 x.1 t.1 t.0 (sym x.2 ∙ t.2)

-- where all is taken, nothing is a cause
pub taken_free : (bytes : List ℕ) → IsTaken bytes → (q : Reason) (m : ℕ) → IsCause bytes q m → ⊥
taken_free bytes t reason.NotUtf8 m c = none_dead bytes m t c.0
taken_free bytes t reason.Syntax m c = none_dead bytes m t c.0
taken_free bytes t reason.Truncated m c = c
taken_free bytes t reason.Namespace m c = not_refused bytes reason.Namespace m t (namespace_refused bytes m c)
taken_free bytes t reason.Depth m c = not_refused bytes reason.Depth m t (depth_refused bytes m c)
taken_free bytes t reason.Size m c = not_refused bytes reason.Size m t (size_refused bytes m c)
taken_free bytes t reason.Attributes m c = not_refused bytes reason.Attributes m t (attributes_refused bytes m c)

early_place : (bytes : List ℕ) (n : ℕ) → xml_answer bytes ≡ Err (fault.At reason.Truncated n) → n ≡ length bytes
early_place bytes n e = of_taken (early_taken bytes n e)
  where
    of_tree : (taken : ℕ) (tree : Option Tree) → answer_by taken tree ≡ Err (fault.At reason.Truncated n) → taken ≡ n
    of_tree taken None f = same_place reason.Truncated reason.Truncated taken n f
    of_tree taken (Some tree) f = absurd (exact.ok_fault tree reason.Truncated n f)

    all : (x k : ℕ) → 0 + x ≡ k → k ≡ n → n ≡ x
    all x k e f = omega (arith, e, f)

    of_taken : IsTaken bytes → n ≡ length bytes
    of_taken t = all (length bytes) t.1 (back bytes (top mode.Begin) Between false 0 t.0 t.1 (omega arith) t.2).2
        (of_tree t.1 (finished t.0) (sym (ap answer_of t.2) ∙ e))

-- ---- the answer

module _ (bytes : List ℕ) where
  refused_for : (r : Reason) (n : ℕ) → xml_answer bytes ≡ Err (fault.At r n) → IsRefused bytes r n
  refused_for reason.NotUtf8 n e = (utf8_cause bytes n e, is_first bytes reason.NotUtf8 n e)
  refused_for reason.Syntax n e = (syntax_cause bytes n e, is_first bytes reason.Syntax n e)
  refused_for reason.Truncated n e = (
    (taken_free bytes (early_taken bytes n e), λ tree x. refused_none bytes tree (fault.At reason.Truncated n) e x),
    early_place bytes n e,
  )
  refused_for reason.Namespace n e =
      (unexplained bytes n e, is_first bytes reason.Namespace n e)
  refused_for reason.Depth n e = (too_deep bytes n e, is_first bytes reason.Depth n e)
  refused_for reason.Size n e = (too_large bytes n e, is_first bytes reason.Size n e)
  refused_for reason.Attributes n e =
      (one_too_many bytes n e, is_first bytes reason.Attributes n e)

  answered : (x : Result Tree XmlFault) → xml_answer bytes ≡ x → IsAnswerOf bytes x
  answered (Ok tree) e = sound bytes tree e
  answered (Err fault.Memory) e = absurd (memory_never (run (Going start 0) bytes) e)
  answered (Err (fault.At r n)) e = refused_for r n e

  -- what a refusal says, whatever its reason
  abbrev Said : Reason → ℕ → Type 0
  Said r n = ((r ≡ reason.Truncated) × IsTruncated bytes × (n ≡ length bytes)) ⊎ (IsCause bytes r n × IsLeast bytes r n)

  said : (r : Reason) (n : ℕ) → IsRefused bytes r n → Said r n
  said reason.Truncated n x = inl (refl, x.0, x.1)
  said reason.NotUtf8 n x = inr (x.0, x.1)
  said reason.Syntax n x = inr (x.0, x.1)
  said reason.Namespace n x = inr (x.0, x.1)
  said reason.Depth n x = inr (x.0, x.1)
  said reason.Size n x = inr (x.0, x.1)
  said reason.Attributes n x = inr (x.0, x.1)

  same_fault : (r q : Reason) (n m : ℕ) → r ≡ q → n ≡ m → (let a : Result Tree XmlFault = Err (fault.At r n) in a) ≡ Err (fault.At q m)
  same_fault r q n m e f = ap (λ x. Err (fault.At x n)) e ∙ ap (λ x. Err (fault.At q x)) f

  -- bytes of which this is said are answered so
  early_told : (n : ℕ) → IsTruncated bytes → n ≡ length bytes → (x : Result Tree XmlFault) → xml_answer bytes ≡ x
      → x ≡ Err (fault.At reason.Truncated n)
  early_told n t l (Ok tree) e = absurd (t.1 tree (sound bytes tree e))
  early_told n t l (Err fault.Memory) e = absurd (memory_never (run (Going start 0) bytes) e)
  early_told n t l (Err (fault.At r m)) e = by (said r m (refused_for r m e))
    where
      by : Said r m → (let a : Result Tree XmlFault = Err (fault.At r m) in a) ≡ Err (fault.At reason.Truncated n)
      by (inl y) = same_fault r reason.Truncated m n y.0 (y.2 ∙ sym l)
      by (inr y) = absurd (t.0 r m y.0)

  one_place : (n m x y : ℕ) → (n < m) ⊎ ((n ≡ m) × (x ≤ y)) → (m < n) ⊎ ((m ≡ n) × (y ≤ x)) → (n ≡ m) × (x ≡ y)
  one_place n m x y (inl a) (inl b) = absurd (omega (arith, a, b))
  one_place n m x y (inl a) (inr b) = absurd (omega (arith, a, b.0))
  one_place n m x y (inr a) (inl b) = absurd (omega (arith, a.0, b))
  one_place n m x y (inr a) (inr b) = (a.0, omega (arith, a.1, b.1))

  pub cause_answered : (r : Reason) (n : ℕ) → IsCause bytes r n → IsLeast bytes r n → xml_answer bytes ≡ Err (fault.At r n)
  cause_answered r n c f = by (cause_told bytes r n c)
    where
      by_said : (q : Reason) (m : ℕ) → xml_answer bytes ≡ Err (fault.At q m) → NoLater q m r n → Said q m
          → xml_answer bytes ≡ Err (fault.At r n)
      by_said q m e l (inl y) = absurd (y.1.0 r n c)
      by_said q m e l (inr y) =
          let o = one_place m n (number_of q) (number_of r) l (f q m y.0) in e ∙ same_fault q r m n (same_number q r o.1) o.0

      by : IsToldBy bytes r n → xml_answer bytes ≡ Err (fault.At r n)
      by x = by_said x.0 x.1 x.2 x.3 (said x.0 x.1 (refused_for x.0 x.1 x.2))

  pub only_answer : (a : Result Tree XmlFault) → IsAnswerOf bytes a → xml_answer bytes ≡ a
  only_answer (Ok tree) x = complete bytes tree x
  only_answer (Err fault.Memory) x = absurd x
  only_answer (Err (fault.At r n)) x = by (said r n x)
    where
      by : Said r n → xml_answer bytes ≡ Err (fault.At r n)
      by (inl y) = early_told n y.1 y.2 (xml_answer bytes) refl ∙ same_fault reason.Truncated r n n (sym y.0) refl
      by (inr y) = cause_answered r n y.0 y.1

pub holds : (bytes : List ℕ) → IsAnswerOf bytes (xml_answer bytes)
holds bytes = answered bytes (xml_answer bytes) refl

pub is_one : (bytes : List ℕ) (a b : Result Tree XmlFault) → IsAnswerOf bytes a → IsAnswerOf bytes b → a ≡ b
is_one bytes a b x y = sym (only_answer bytes a x) ∙ only_answer bytes b y

-- what the machine stops at is the first cause
pub stopped : (bytes : List ℕ) (r : Reason) (n : ℕ) → run (Going start 0) bytes ≡ Refused r n → IsCause bytes r n × IsLeast bytes r n
stopped bytes r n e = (has_cause bytes r n (ap answer_of e) other, is_first bytes r n (ap answer_of e))
  where
    clash : IsTaken bytes → ⊥
    clash k = refused_going r n k.1 k.0 (sym e ∙ k.2)

    other : r ≡ reason.Truncated → ⊥
    other t = clash (early_taken bytes n (ap answer_of e ∙ ap (λ x. Err (fault.At x n)) t))

no_early_cause : (bytes : List ℕ) (r : Reason) (n : ℕ) → IsCause bytes r n → r ≡ reason.Truncated → ⊥
no_early_cause bytes r n c e = subst (λ x. IsCause bytes x n) e c

-- the first cause stays the first whatever follows
pub stays_first : (front more : List ℕ) (r : Reason) (n : ℕ) → IsCause front r n → IsLeast front r n
    → IsCause (front ++ more) r n × IsLeast (front ++ more) r n
stays_first front more r n c l = (has_cause (front ++ more) r n still other, is_first (front ++ more) r n still)
  where
    other : r ≡ reason.Truncated → ⊥
    other = no_early_cause front r n c

    still : xml_answer (front ++ more) ≡ Err (fault.At r n)
    still = ap answer_of (run_append (Going start 0) front more)
        ∙ stays (run (Going start 0) front) more r n (cause_answered front r n c l) other
