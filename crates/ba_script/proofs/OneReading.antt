-- A text is a script in one way, or none, and is bad at one place: for the law `scripts_mean_one_thing`.
use Rattle.std.proofs.Common.{◌≡◌, ℕ, ◌+◌, ◌≤◌, Option, None, Some, List, [], ◌∷◌, take, zero, suc, sym, ap, ◌∙◌, subst, inl, inr, arith}
use Rattle.ba_core.specs.declared.protocols.Protocol.{Protocol}
use Rattle.ba_script_forms.specs.Readings.{IsLine, bad_column}
use Rattle.ba_script_forms.specs.declared.readings.Form.{Form}
use Rattle.ba_script_forms.specs.declared.readings.Reading.{Reading}
use Rattle.ba_script_forms.proofs.Back.{line_is_one}
use Rattle.ba_script_forms.proofs.Meanings.{line_is_good}
use Rattle.ba_pair.specs.PairPlay.{Numbered}
use Rattle.ba_ports.specs.Lines.{lines_of}
use Rattle.ba_script.specs.Scripts.{form_after, onto_script, MeansScript, IsFirstBadLine, IsScript, IsPairScript, IsBadScript, IsLongScript}
use Rattle.ba_script.specs.declared.scripts.Script.{Script}
use Rattle.ba_script.specs.declared.scripts.Script.TheVariants.{Pair}

-- a line that says something isn't bad
not_bad : (form : Option Form) (r : Reading) (line : List ℕ) (column : ℕ) → IsLine form r line → bad_column form line ≡ Some column → ⊥
not_bad form r line column is bad = absurd (cc (line_is_good form r line is))

one_column : (form : Option Form) (line : List ℕ) (c d : ℕ) → bad_column form line ≡ Some c → bad_column form line ≡ Some d → c ≡ d
one_column form line c d one other = cc

module _ (form : Option Form) (line : List ℕ) (r s : Reading) (one : IsLine form r line) (other : IsLine form s line) where
  same : r ≡ s
  same = line_is_one form r s line one other

  after_one : form_after form r ≡ form_after form s
  after_one = ap (form_after form) same

  onto_one : (number : ℕ) (a b : Script) → a ≡ b → onto_script r number a ≡ onto_script s number b
  onto_one number a b same_later = ap (λ t. onto_script t number a) same ∙ ap (onto_script s number) same_later

means_one : (form : Option Form) (number : ℕ) (lines : List (List ℕ)) (s t : Script)
    → MeansScript form number lines s → MeansScript form number lines t → s ≡ t
means_one form number [] s t one other = one ∙ sym other
means_one form number (line ∷ lines) s t (r, later, is, s_is, one) (q, others, so, t_is, other) =
    let one_there = subst (λ f. MeansScript f (number + 1) lines later) (after_one form line r q is so) one in
    let same_later = means_one (form_after form q) (number + 1) lines later others one_there other in
    s_is ∙ onto_one form line r q is so number later others same_later ∙ sym t_is

means_not_bad : (form : Option Form) (number : ℕ) (lines : List (List ℕ)) (s : Script) (bad column : ℕ)
    → MeansScript form number lines s → IsFirstBadLine form number lines bad column → ⊥
means_not_bad form number [] s bad column means stops = stops
means_not_bad form number (line ∷ lines) s bad column (r, later, is, s_is, means) (inl stops) = not_bad form r line column is stops.0
means_not_bad form number (line ∷ lines) s bad column (r, later, is, s_is, means) (inr (q, so, stops)) =
    means_not_bad (form_after form q) (number + 1) lines later bad column
    (subst (λ f. MeansScript f (number + 1) lines later) (after_one form line r q is so) means) stops

stops_once : (form : Option Form) (number : ℕ) (lines : List (List ℕ)) (m n c d : ℕ) → IsFirstBadLine form number lines m c
    → IsFirstBadLine form number lines n d → (m ≡ n) × (c ≡ d)
stops_once form number [] m n c d one other = absurd one
stops_once form number (line ∷ lines) m n c d (inl one) (inl other) = (one.1 ∙ sym other.1, one_column form line c d one.0 other.0)
stops_once form number (line ∷ lines) m n c d (inl one) (inr (q, so, other)) = absurd (not_bad form q line c so one.0)
stops_once form number (line ∷ lines) m n c d (inr (r, is, one)) (inl other) = absurd (not_bad form r line d is other.0)
stops_once form number (line ∷ lines) m n c d (inr (r, is, one)) (inr (q, so, other)) =
    stops_once (form_after form q) (number + 1) lines m n c d
    (subst (λ f. IsFirstBadLine f (number + 1) lines m c) (after_one form line r q is so) one) other

stops_from : (form : Option Form) (number : ℕ) (lines : List (List ℕ)) (bad column : ℕ)
    → IsFirstBadLine form number lines bad column → number ≤ bad
stops_from form number [] bad column stops = absurd stops
stops_from form number (line ∷ lines) bad column (inl stops) = omega (arith, stops.1)
stops_from form number (line ∷ lines) bad column (inr (q, so, stops)) =
    omega (arith, stops_from (form_after form q) (number + 1) lines bad column stops)

-- no line is bad among the first ones that mean something
first_not_bad : (form : Option Form) (number : ℕ) (lines : List (List ℕ)) (size : ℕ) (s : Script) (bad column : ℕ)
    → MeansScript form number (take size lines) s → IsFirstBadLine form number lines bad column → number + size ≤ bad
first_not_bad form number [] size s bad column means stops = absurd stops
first_not_bad form number (line ∷ lines) zero s bad column means stops =
    omega (arith, stops_from form number (line ∷ lines) bad column stops)
first_not_bad form number (line ∷ lines) (suc size) s bad column (r, later, is, s_is, means) (inl stops) =
    absurd (not_bad form r line column is stops.0)
first_not_bad form number (line ∷ lines) (suc size) s bad column (r, later, is, s_is, means) (inr (q, so, stops)) =
    let there = subst (λ f. MeansScript f (number + 1) (take size lines) later) (after_one form line r q is so) means in
    omega (arith, first_not_bad (form_after form q) (number + 1) lines size later bad column there stops)

pub script_is_one : (text : List ℕ) (s t : Script) → IsScript text s → IsScript text t → s ≡ t
script_is_one text s t one other = means_one None 1 (lines_of text) s t one.means other.means

pub pair_is_one : (text : List ℕ) (p q : Protocol) (a b : List Numbered) → IsPairScript text p a → IsPairScript text q b
    → (p ≡ q) × (a ≡ b)
pair_is_one text p q a b one other =
    let same : Pair p a ≡ Pair q b = script_is_one text (Pair p a) (Pair q b) one other in
    (cc, cc)

pub script_not_bad : (text : List ℕ) (s : Script) (n column : ℕ) → IsScript text s → IsBadScript text n column → ⊥
script_not_bad text s n column script bad = means_not_bad None 1 (lines_of text) s n column script.means bad.stops

pub bad_is_one : (text : List ℕ) (m n c d : ℕ) → IsBadScript text m c → IsBadScript text n d → (m ≡ n) × (c ≡ d)
bad_is_one text m n c d one other = stops_once None 1 (lines_of text) m n c d one.stops other.stops

pub script_not_long : (text : List ℕ) (s : Script) → IsScript text s → IsLongScript text → ⊥
script_not_long text s script long = omega (arith, script.few, long.long)

pub long_not_bad : (text : List ℕ) (n column : ℕ) → IsLongScript text → IsBadScript text n column → ⊥
long_not_bad text n column long bad =
    let late : 1 + 100000 ≤ n = first_not_bad None 1 (lines_of text) 100000 long.means.0 n column long.means.1 bad.stops in
    omega (arith, late, bad.early)
