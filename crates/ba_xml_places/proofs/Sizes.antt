-- Where bytes are refused for their size: there are too many, and up to and with the one at the place they have a continuation.
use Rattle.std.proofs.Common.{◌≡◌, ℕ, ◌+◌, ◌<◌, ◌≤◌, Bool, true, false, cond, ◌==◌, nat_lt, ◌⊎◌, inl, inr, Option, Some, None}
use Rattle.std.proofs.Common.{Err}
use Rattle.std.proofs.Common.{List, [], ◌∷◌, ◌++◌, length, take, refl, sym, ap, subst, ◌∙◌, arith, append_assoc}
use Rattle.std.proofs.lemmas.Bool.{ltb-false, cases_lt}
use Rattle.ba_tree.specs.declared.trees.Tree.{Tree}
use Rattle.ba_xml_places.proofs.Alive.{well_formed}
use Rattle.ba_xml_places.proofs.Earlier.{first_dead}
use Rattle.ba_xml_places.proofs.Exact.{IsWhy, same_fault, same_reason, fault_reason, ok_fault, stop, reached_before, state_reason}
use Rattle.ba_xml_places.proofs.Utf8.{IsOfOctets, of_octets}
use Rattle.ba_xml_places.proofs.Viable.{IsReached, IsGoing, Closing, reached, closed_state, continued}
use Rattle.ba_xml_reader.proofs.CompleteCharacters.{octets, octets_append}
use Rattle.ba_xml_reader.proofs.CompleteLayers.{run_none, run_one, line_step, scanned}
use Rattle.ba_xml_reader.proofs.CompleteSteps.{steps, none}
use Rattle.ba_xml_reader.proofs.Dead.{run_refused}
use Rattle.ba_xml_reader.proofs.SoundBack.{back}
use Rattle.ba_xml_reader.proofs.SoundDocuments.{top}
use Rattle.ba_xml_grammar.specs.GrammarTexts.{lines, IsWellFormed, CanContinue}
use Rattle.ba_xml_grammar.specs.Places.{IsCause, IsDead}
use Rattle.ba_xml_reader.specs.inside.Machine.{start, run, unless_returned, turned, turned_by, turned_from, counted, reason_at, reason_past}
use Rattle.ba_xml_reader.specs.inside.Machine.{finished, answer_by}
use Rattle.ba_xml_reader.specs.inside.Machine.{answer_of, xml_answer}
use Rattle.ba_xml_words.specs.inside.Octets.{octet_after}
use Rattle.ba_xml_words.specs.declared.faults.Reason.{Reason}
use Rattle.ba_xml_words.specs.declared.faults.Reason.TheVariants as reason
use Rattle.ba_xml_words.specs.declared.faults.XmlFault.TheVariants as fault
use Rattle.ba_xml_words.specs.declared.octets.Decoding.{Decoding}
use Rattle.ba_xml_words.specs.declared.octets.Decoding.TheVariants as decoding
use Rattle.ba_xml_words.specs.declared.octets.Octet.{Octet}
use Rattle.ba_xml_words.specs.declared.octets.Octet.TheVariants.{Between}
use Rattle.ba_xml_reader.specs.declared.machine.Scan.{Scan}
use Rattle.ba_xml_reader.specs.declared.states.Mode.TheVariants as mode
use Rattle.ba_xml_reader.specs.declared.states.State.{State}
use Rattle.ba_xml_reader.specs.declared.states.State.TheVariants as state
use Rattle.ba_xml_reader.specs.inside.Readings.{Reading, Refused, Going}

-- ---- the run

no_truncated : reason.Truncated ≡ reason.Size → ⊥
no_truncated e = cc

by_tree : (taken : ℕ) (found : Option Tree) (n : ℕ) → answer_by taken found ≡ Err (fault.At reason.Size n) → ⊥
by_tree taken None n e = no_truncated (fault_reason reason.Truncated reason.Size taken n e)
by_tree taken (Some tree) n e = ok_fault tree reason.Size n e

refused_by : (x : Reading) (n : ℕ) → answer_of x ≡ Err (fault.At reason.Size n) → x ≡ Refused reason.Size n
refused_by (Refused y m) n e = same_fault y reason.Size m n e
refused_by (Going scan taken) n e = absurd (by_tree taken (finished scan) n e)

-- ---- the byte

-- what is told as size is that, or attributes at the limit
size_of : (x : Reason) (n : ℕ) → reason_at n x ≡ reason.Size → (x ≡ reason.Size) ⊎ ((x ≡ reason.Attributes) × (262144 ≤ n))
size_of x n e = by (nat_lt n 262144) refl e
  where
    past : (x : Reason) → 262144 ≤ n → reason_past x ≡ reason.Size → (x ≡ reason.Size) ⊎ ((x ≡ reason.Attributes) × (262144 ≤ n))
    past reason.Attributes l e = inr (refl, l)
    past reason.NotUtf8 l e = inl e
    past reason.Syntax l e = inl e
    past reason.Truncated l e = inl e
    past reason.Namespace l e = inl e
    past reason.Depth l e = inl e
    past reason.Size l e = inl e

    by : (q : Bool) → nat_lt n 262144 ≡ q → cond q x (reason_past x) ≡ reason.Size → (x ≡ reason.Size)
        ⊎ ((x ≡ reason.Attributes) × (262144 ≤ n))
    by true q e = inl e
    by false q e = past x (ltb-false n 262144 q) e

-- the count is at the limit, and the byte is an attribute too many, or it is taken
abbrev IsFull : Scan → ℕ → ℕ → Type 0
IsFull last b n = (262144 ≤ n) × (IsWhy last b reason.Attributes
    ⊎ ((p : Octet) × (octet_after last.octet b ≡ decoding.At p) × IsGoing (unless_returned last.state last.returned b)))

no_octets : (x : Reason) (n : ℕ) → IsOfOctets (decoding.Broken x) → (x ≡ reason.Size) ⊎ ((x ≡ reason.Attributes) × (262144 ≤ n)) → ⊥
no_octets x n o (inl e) = subst (λ r. IsOfOctets (decoding.Broken r)) e o
no_octets x n o (inr e) = subst (λ r. IsOfOctets (decoding.Broken r)) e.0 o

by_state : (last : Scan) (b n : ℕ) (p : Octet) → IsReached last.octet last.state → octet_after last.octet b ≡ decoding.At p
    → (s : State) → unless_returned last.state last.returned b ≡ s → counted n (turned_by s p b) ≡ Refused reason.Size n → IsFull last b n
by_state last b n p x o (state.Refused r) q e = by (size_of r n (same_reason (reason_at n r) reason.Size n n e))
  where
    by : (r ≡ reason.Size) ⊎ ((r ≡ reason.Attributes) × (262144 ≤ n)) → IsFull last b n
    by (inl f) = absurd (state_reason last b reason.Size p x o (q ∙ ap (λ y. state.Refused y) f))
    by (inr f) = (f.1, inl (inr (p, o, q ∙ ap (λ y. state.Refused y) f.0)))
by_state last b n p x o (state.At outer here m) q e = by (nat_lt n 262144) refl e
  where
    clash : Going (scanned (state.At outer here m) p (b == 13)) (n + 1) ≡ Refused reason.Size n → ⊥
    clash f = cc

    by : (t : Bool) → nat_lt n 262144 ≡ t → cond t (Going (scanned (state.At outer here m) p (b == 13)) (n + 1))
        (Refused reason.Size n) ≡ Refused reason.Size n
        → IsFull last b n
    by true t f = absurd (clash f)
    by false t f = (ltb-false n 262144 t, inr (p, o, subst (λ s. IsGoing s) (sym q) tt))

full : (last : Scan) (b n : ℕ) → IsReached last.octet last.state → counted n (turned last b) ≡ Refused reason.Size n → IsFull last b n
full last b n x e = by (octet_after last.octet b) refl e
  where
    by : (d : Decoding) → octet_after last.octet b ≡ d → counted n (turned_from last b d) ≡ Refused reason.Size n → IsFull last b n
    by (decoding.Broken r) o f = absurd (no_octets r n (subst (λ d. IsOfOctets d) o (of_octets last.octet b))
        (size_of r n (same_reason (reason_at n r) reason.Size n n f)))
    by (decoding.At p) o f = by_state last b n p x o (unless_returned last.state last.returned b) refl f

-- ---- states over bytes and what follows them

refused_going : (r : Reason) (m n : ℕ) (scan : Scan) → Refused r m ≡ Going scan n → ⊥
refused_going r m n scan e = cc

scan_in : Reading → Scan
scan_in (Refused r n) = start
scan_in (Going scan n) = scan

same_scan : (x y : Scan) (m n : ℕ) → Going x m ≡ Going y n → x ≡ y
unfolding scan_in
same_scan x y m n e = ap scan_in e

-- where a run goes on, the states lead to its own, and the line ends go on as it says
abbrev LeadsOn : List ℕ → Type 0
LeadsOn bs = (scan : Scan) (taken : ℕ) (last : Scan) (n : ℕ) (more : List ℕ) → run (Going scan taken) bs ≡ Going last n
    → steps scan.state (lines scan.returned (bs ++ more)) ≡ steps last.state (lines last.returned more)

on_state : (b : ℕ) (bs : List ℕ) → LeadsOn bs → (s : State) (o : Octet) (taken : ℕ) (last : Scan) (n : ℕ) (more : List ℕ)
    → run (counted taken (turned_by s o b)) bs ≡ Going last n
    → steps s (lines (b == 13) (bs ++ more)) ≡ steps last.state (lines last.returned more)
on_state b bs ih (state.Refused x) o taken last n more e =
    absurd (refused_going (reason_at taken x) taken n last (sym (run_refused (reason_at taken x) taken bs) ∙ e))
on_state b bs ih (state.At outer here m) o taken last n more e = by (nat_lt taken 262144) e
  where
    by : (q : Bool) → run (cond q (Going (scanned (state.At outer here m) o (b == 13)) (taken + 1))
        (Refused reason.Size taken)) bs ≡ Going last n
        → steps (state.At outer here m) (lines (b == 13) (bs ++ more)) ≡ steps last.state (lines last.returned more)
    by true f = ih (scanned (state.At outer here m) o (b == 13)) (taken + 1) last n more f
    by false f = absurd (refused_going reason.Size taken n last (sym (run_refused reason.Size taken bs) ∙ f))

leads_on : (bs : List ℕ) → LeadsOn bs
leads_on [] = λ scan taken last n more e.
    ap (λ s. steps s.state (lines s.returned more)) (same_scan scan last taken n (sym (run_none (Going scan taken)) ∙ e))
leads_on (b ∷ bs) = λ scan taken last n more e.
    line_step scan.state scan.returned b (bs ++ more)
    ∙ by (leads_on bs) scan taken last n more (octet_after scan.octet b) (sym (run_one scan taken b bs) ∙ e)
  where
    by : LeadsOn bs → (scan : Scan) (taken : ℕ) (last : Scan) (n : ℕ) (more : List ℕ) (d : Decoding)
        → run (counted taken (turned_from scan b d)) bs ≡ Going last n
        → steps (unless_returned scan.state scan.returned b) (lines (b == 13) (bs ++ more)) ≡ steps last.state (lines last.returned more)
    by ih scan taken last n more (decoding.Broken x) f =
        absurd (refused_going (reason_at taken x) taken n last (sym (run_refused (reason_at taken x) taken bs) ∙ f))
    by ih scan taken last n more (decoding.At o) f = on_state b bs ih (unless_returned scan.state scan.returned b) o taken last n more f

-- ---- the place

-- bytes over which characters and states go on have a continuation
goes_on_alive : (front : List ℕ) (o : Octet) → octets (decoding.At Between) front ≡ decoding.At o
    → IsGoing (steps (top mode.Begin) (lines false front))
    → CanContinue front
goes_on_alive front o e g =
    let x : IsReached o (steps (top mode.Begin) (lines false front)) =
    reached front (top mode.Begin) 0 Between false o ((tt, tt), tt) (inl refl) e in
    let c : Closing o (steps (top mode.Begin) (lines false front)) =
    closed_state (steps (top mode.Begin) (lines false front)) x.0 o g x.1 x.2 in
    (c.0, continued front (steps (top mode.Begin) (lines false front)) o e refl c)

full_alive : (front : List ℕ) (last : Scan) (n b : ℕ) → run (Going start 0) front ≡ Going last n → IsFull last b n
    → CanContinue (front ++ b ∷ [])
full_alive front last n b e f = by f.1
  where
    by : IsWhy last b reason.Attributes ⊎ ((p : Octet) × (octet_after last.octet b ≡ decoding.At p)
        × IsGoing (unless_returned last.state last.returned b))
        → CanContinue (front ++ b ∷ [])
    by (inl y) =
        let w = well_formed front last n b reason.Attributes tt e y in
        (w.0, subst (λ z. IsWellFormed z) (sym (append_assoc front (b ∷ []) w.0)) w.1)
    by (inr y) =
        let r = reached_before front last n e in
        goes_on_alive (front ++ b ∷ []) y.0 (octets_append front (b ∷ []) Between last.octet r.0 ∙ y.1)
        (subst (λ s. IsGoing s) (sym (leads_on front start 0 last n (b ∷ []) e ∙ line_step last.state last.returned b []
        ∙ none (unless_returned last.state last.returned b))) y.2)

pub too_large : (bytes : List ℕ) (n : ℕ) → xml_answer bytes ≡ Err (fault.At reason.Size n) → IsCause bytes reason.Size n
too_large bytes n e =
    let i = stop bytes reason.Size n (refused_by (run (Going start 0) bytes) n e) in
    let f = full i.1 i.3 n (reached_before (take n bytes) i.1 n i.2).1 i.5 in
    let most = (back (take n bytes) (top mode.Begin) Between false 0 i.1 n (omega arith) i.2).3 in
    let same : n ≡ 262144 = both n f.0 most in
    (subst (λ k. k < length bytes) same i.0, same)
  where
    both : (k : ℕ) → 262144 ≤ k → k ≤ 262144 → k ≡ 262144
    both k a b = omega (arith, a, b)

pub large_alive : (bytes : List ℕ) (n : ℕ) → xml_answer bytes ≡ Err (fault.At reason.Size n) → CanContinue (take (n + 1) bytes)
large_alive bytes n e =
    let i = stop bytes reason.Size n (refused_by (run (Going start 0) bytes) n e) in
    let f = full i.1 i.3 n (reached_before (take n bytes) i.1 n i.2).1 i.5 in
    subst (λ z. CanContinue z) (sym i.4) (full_alive (take n bytes) i.1 n i.3 i.2 f)

pub large_before_dead : (bytes : List ℕ) (n : ℕ) → xml_answer bytes ≡ Err (fault.At reason.Size n) → (m : ℕ) → IsDead bytes m → n < m
large_before_dead bytes n e m d = by (cases_lt n m)
  where
    same : m ≤ n → n ≤ m → m ≡ n
    same a b = omega (arith, a, b)

    clash : m ≡ n → ⊥
    clash s = (subst (λ k. IsDead bytes k) s d).2 (large_alive bytes n e)

    by : (n < m) ⊎ (m ≤ n) → n < m
    by (inl l) = l
    by (inr h) = absurd (clash (same h (first_dead bytes reason.Size n e m d)))
