-- The play of each script of a world is safe: it has at most 64 nodes, and no more events than a script has lines.
use Rattle.std.proofs.Common.{ℕ, suc, ◌+◌, ◌≤◌, List, [], ◌∷◌, length, Option, None, Some, sym, subst, arith}
use Rattle.ba_world_events.specs.Events.{NumberedEvent}
use Rattle.ba_script_forms.specs.Readings.{IsLine, IsPlayable}
use Rattle.ba_script_forms.specs.declared.readings.Form.{Form}
use Rattle.ba_script_forms.specs.declared.readings.Form.TheVariants as form
use Rattle.ba_script_forms.specs.declared.readings.Reading.{Reading}
use Rattle.ba_script_forms.specs.declared.readings.Reading.TheVariants as reading
use Rattle.ba_world_play.proofs.Stories.{safe_story}
use Rattle.ba_world_play.specs.SafeStories.{IsSafeStory}
use Rattle.ba_world_play.specs.Shows.{story}
use Rattle.ba_ports.specs.Lines.{lines_of}
use Rattle.ba_script.specs.Scripts.{IsWorldScript, MeansScript, empty_script, form_after, onto_script}
use Rattle.ba_script.specs.declared.scripts.Script.{Script}
use Rattle.ba_script.specs.declared.scripts.Script.TheVariants.{Pair, World}

-- a script of a world has at most 64 nodes and so many events
abbrev ScriptFits : ℕ → Script → Type 0
ScriptFits most (Pair protocol events) = Unit {0}
ScriptFits most (World nodes events) = (nodes ≤ 64) × (length events ≤ most)

abbrev FormFits : Option Form → Type 0
FormFits None = Unit {0}
FormFits (Some (form.Pair protocol)) = Unit {0}
FormFits (Some (form.World nodes)) = nodes ≤ 64

empty_fits : (chosen : Option Form) → FormFits chosen → ScriptFits 0 (empty_script chosen)
empty_fits None fits = tt
empty_fits (Some (form.Pair protocol)) fits = tt
empty_fits (Some (form.World nodes)) fits = let none : length {A = NumberedEvent} [] ≤ 0 = omega arith in (fits, none)

one_more_fits : (most : ℕ) (script : Script) → ScriptFits most script → ScriptFits (suc most) script
one_more_fits most (Pair protocol events) fits = tt
one_more_fits most (World nodes events) fits = let few : length events ≤ suc most = omega (arith, fits.1) in (fits.0, few)

onto_fits : (said : Reading) (number most : ℕ) (later : Script) → ScriptFits most later
    → ScriptFits (suc most) (onto_script said number later)
onto_fits reading.Nothing number most later fits = one_more_fits most later fits
onto_fits (reading.Opening chosen) number most later fits = one_more_fits most later fits
onto_fits (reading.Pair e) number most (Pair protocol events) fits = tt
onto_fits (reading.Pair e) number most (World nodes events) fits = one_more_fits most (World nodes events) fits
onto_fits (reading.World e) number most (Pair protocol events) fits = tt
onto_fits (reading.World e) number most (World nodes events) fits =
    let all : List NumberedEvent = (number, e) ∷ events in
    let few : length all ≤ suc most = omega (arith, fits.1) in (fits.0, few)

opened_fits : (chosen : Form) → IsPlayable chosen → FormFits (Some chosen)
opened_fits (form.Pair protocol) fits = tt
opened_fits (form.World nodes) fits = fits.1

after_fits : (chosen : Option Form) (said : Reading) (line : List ℕ) → FormFits chosen → IsLine chosen said line
    → FormFits (form_after chosen said)
after_fits (Some chosen) said line fits is = fits
after_fits None reading.Nothing line fits is = tt
after_fits None (reading.Opening chosen) line fits is = opened_fits chosen is.says.1
after_fits None (reading.Pair e) line fits is = tt
after_fits None (reading.World e) line fits is = tt

means_fits : (chosen : Option Form) (number : ℕ) (lines : List (List ℕ)) (script : Script) → FormFits chosen
    → MeansScript chosen number lines script → ScriptFits (length lines) script
means_fits chosen number [] script fits is = subst (ScriptFits 0) (sym is) (empty_fits chosen fits)
means_fits chosen number (line ∷ lines) script fits is =
    subst (ScriptFits (suc (length lines))) (sym is.3)
    (onto_fits is.0 number (length lines) is.1
    (means_fits (form_after chosen is.0) (number + 1) lines is.1 (after_fits chosen is.0 line fits is.2) is.4))

pub world_is_safe : (input : List ℕ) (nodes : ℕ) (events : List NumberedEvent) → IsWorldScript input nodes events
    → IsSafeStory (story nodes events)
world_is_safe input nodes events is =
    let fits : ScriptFits (length (lines_of input)) (World nodes events) = means_fits None 1 (lines_of input) (World nodes events) tt
    is.means in
    let small : nodes ≤ 64 = fits.0 in
    let events_few : length events ≤ length (lines_of input) = fits.1 in
    let lines_few = is.few in
    safe_story nodes events (omega (arith, small)) (omega (arith, events_few, lines_few))
