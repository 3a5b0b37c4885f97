-- Each text is a script, has a first bad line, or is too long: for the law `scripts_mean_one_thing`, clause `some`.
use Rattle.std.proofs.Common.{◌≡◌, ℕ, ◌+◌, ◌<◌, ◌⊎◌, inl, inr, Bool, true, false, nat_lt, Option, None, List, [], ◌∷◌, length, take}
use Rattle.std.proofs.Common.{length-take, zero, suc, refl, arith}
use Rattle.std.proofs.lemmas.Bool.{ltb-true, ltb-false}
use Rattle.ba_script_forms.specs.declared.readings.Form.{Form}
use Rattle.ba_script_forms.proofs.Meanings.{line_means}
use Rattle.ba_ports.specs.Lines.{lines_of}
use Rattle.ba_script.specs.Scripts.{empty_script, form_after, onto_script, MeansScript, IsFirstBadLine, IsScript, IsBadScript, IsLongScript}
use Rattle.ba_script.specs.declared.scripts.Script.{Script}

less_decided : (m n : ℕ) → (m < n) ⊎ (m < n → ⊥)
less_decided m n = by_test (nat_lt m n) refl
  where
    by_test : (s : Bool) → nat_lt m n ≡ s → (m < n) ⊎ (m < n → ⊥)
    by_test true p = inl (ltb-true m n p)
    by_test false p = inr (λ h. absurd (omega (arith, ltb-false m n p, h)))

-- lines mean a script, or one of them is the first bad one
lines_decided : (form : Option Form) (number : ℕ) (lines : List (List ℕ))
    → ((s : Script) × MeansScript form number lines s) ⊎
    ((bad : ℕ) × (column : ℕ) × (bad < number + length lines) × IsFirstBadLine form number lines bad column)
lines_decided form number [] = inl (empty_script form, refl)
lines_decided form number (line ∷ lines) =
    elim (line_means form line) [
      | inr bad ↦ inr (number, bad.0, omega arith, inl (bad.1, refl))
      | inl is ↦ elim (lines_decided (form_after form is.0) (number + 1) lines) [
        | inl means ↦ inl (onto_script is.0 number means.0, (is.0, means.0, is.1, refl, means.1))
        | inr stops ↦ inr (stops.0, stops.1, omega (arith, stops.2), inr (is.0, is.1, stops.3))
      ]
    ]

-- a line that is the first bad one of the first lines is the first bad one of all
stops_early : (form : Option Form) (number size : ℕ) (lines : List (List ℕ)) (bad column : ℕ)
    → IsFirstBadLine form number (take size lines) bad column
    → IsFirstBadLine form number lines bad column
stops_early form number zero lines bad column stops = absurd stops
stops_early form number (suc size) [] bad column stops = absurd stops
stops_early form number (suc size) (line ∷ lines) bad column (inl stops) = inl stops
stops_early form number (suc size) (line ∷ lines) bad column (inr (r, is, stops)) =
    inr (r, is, stops_early (form_after form r) (number + 1) size lines bad column stops)

pub text_is_some : (text : List ℕ)
    → ((s : Script) × IsScript text s) ⊎ ((n : ℕ) × (column : ℕ) × IsBadScript text n column) ⊎ IsLongScript text
text_is_some text =
    elim (less_decided 100000 (length (lines_of text))) [
      | inr few ↦ elim (lines_decided None 1 (lines_of text)) [
        | inl means ↦ inl (means.0, record { few = omega (arith, few); means = means.1 })
        | inr stops ↦ inr (inl (stops.0, stops.1, record { early = omega (arith, few, stops.2); stops = stops.3 }))
      ]
      | inl long ↦ elim (lines_decided None 1 (take 100000 (lines_of text))) [
        | inl means ↦ inr (inr (record { long = long; means = means }))
        | inr stops ↦ inr (inl (
          stops.0,
          stops.1,
          record {
            early = omega (arith, stops.2, length-take 100000 (lines_of text));
            stops = stops_early None 1 100000 (lines_of text) stops.0 stops.1 stops.3;
          },
        ))
      ]
    ]
