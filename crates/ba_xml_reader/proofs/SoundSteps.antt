-- One byte backward in each state behind the declaration, and so all bytes: what the states read to a tree is of the grammar.
use Rattle.std.proofs.Common.{◌≡◌, ℕ, Bool, true, false, cond, ◌==◌, nat_lt, Option, Some, None, List, [], ◌∷◌, ◌++◌, length, refl, sym, ap}
use Rattle.std.proofs.Common.{subst, ◌∙◌}
use Rattle.std.proofs.lemmas.Bool.{ltb-true, eqb-true}
use Rattle.ba_tree.specs.declared.trees.Content.{Content}
use Rattle.ba_tree.specs.declared.trees.Tree.{Tree}
use Rattle.ba_xml_reader.proofs.SoundAttributes.{in_tag_back, tag_name_back, equals_back, attribute_name_back, quote_back, value_back}
use Rattle.ba_xml_reader.proofs.SoundAttributes.{value_reference_back}
use Rattle.ba_xml_reader.proofs.SoundContent.{comment_back, section_back, bracketed_back, reference_back, within_by}
use Rattle.ba_xml_reader.proofs.SoundElements.{Stands, tag_stands}
use Rattle.ba_xml_reader.proofs.SoundKinds.{IsMark, mark_told}
use Rattle.ba_xml_reader.proofs.SoundLeads.{LeadsEnd, Leads, Goes}
use Rattle.ba_xml_reader.proofs.SoundPieces.{Outside, Follows, comment_follows, space_follows, section_follows, end_follows}
use Rattle.ba_xml_reader.proofs.CompleteSteps.{steps, none, one}
use Rattle.ba_xml_words.specs.Classes.{class_of}
use Rattle.ba_xml_reader.specs.inside.Content.{open_after, starting_at, below, ending_at, inside_at, inside_after, outside_after}
use Rattle.ba_xml_reader.specs.inside.Content.{exclaimed_after, section_at, hyphened_after}
use Rattle.ba_xml_names.specs.inside.Levels.{place_of, place_outside}
use Rattle.ba_xml_reader.specs.inside.Machine.{root_of, act, state_after, ended_at}
use Rattle.ba_xml_words.specs.inside.Names.{one_letter}
use Rattle.ba_xml_reader.specs.inside.Tags.{end_name_by, end_name_after, end_space_after, closed, slashed_after}
use Rattle.ba_xml_grammar.specs.Grammar.{misc_end}
use Rattle.ba_xml_words.specs.declared.classes.Class.{Class}
use Rattle.ba_xml_words.specs.declared.classes.Class.TheVariants as class
use Rattle.ba_xml_words.specs.declared.faults.Reason.TheVariants.{Depth}
use Rattle.ba_xml_names.specs.declared.levels.Level.{Level}
use Rattle.ba_xml_names.specs.declared.levels.Opening.{Opening}
use Rattle.ba_xml_words.specs.declared.remaining.Meeting.TheVariants as meeting
use Rattle.ba_xml_reader.specs.declared.states.Mode.{Mode}
use Rattle.ba_xml_reader.specs.declared.states.Mode.TheVariants as mode
use Rattle.ba_xml_reader.specs.declared.states.Seen.{Seen}
use Rattle.ba_xml_reader.specs.declared.states.Seen.TheVariants.{Zero}
use Rattle.ba_xml_reader.specs.declared.states.State.{State}
use Rattle.ba_xml_reader.specs.declared.states.State.TheVariants.{Refused, At}

-- ---- between tags

outside_back : (here : Level) (seen : Seen) (t : Tree) (b : ℕ) (bs : List ℕ) (k : Class) → IsMark k b → Goes (outside_after [] here k) bs t
    → Follows [] here seen (b ∷ bs) t
outside_back here seen t b bs class.Space m g = space_follows here seen Zero t b bs m g
outside_back here seen t b bs class.Less m g = subst (λ x. Follows [] here seen (x ∷ bs) t) (sym m) (g seen)
outside_back here seen t b bs _ m g = absurd g

outside_at : (content : List Content) (here : Level) (seen : Seen) (t : Tree) (b : ℕ) (bs : List ℕ) (k : Class) → IsMark k b
    → Goes (inside_at (place_outside content) [] here seen b k) bs t → Follows [] here seen (b ∷ bs) t
outside_at [] here seen t b bs k m g = outside_back here seen t b bs k m g
outside_at (c ∷ cs) here seen t b bs k m g = outside_back here seen t b bs k m g

inside_back : (outer : List Level) (here : Level) (seen : Seen) (t : Tree) (b : ℕ) (bs : List ℕ) (k : Class) → class_of b ≡ k → IsMark k b
    → Goes (inside_after outer here seen b k) bs t → Follows outer here seen (b ∷ bs) t
inside_back [] here seen t b bs k e m g = outside_at here.content here seen t b bs k m g
inside_back (parent ∷ above) here seen t b bs k e m g = within_by parent above here seen t b bs k e m g

below_back : (outer : List Level) (here : Level) (t : Tree) (b : ℕ) (bs : List ℕ) → IsMark class.Letter b → Goes (below outer here b) bs t
    → Stands outer here (60 ∷ b ∷ bs) t
below_back outer here t b bs m g = by (nat_lt (length outer) 32) refl g
  where
    by : (q : Bool) → nat_lt (length outer) 32 ≡ q → Goes (cond q (At outer here (mode.TagName (one_letter b))) (Refused Depth)) bs t
        → Stands outer here (60 ∷ b ∷ bs) t
    by true q g = tag_stands outer here t b bs (ltb-true (length outer) 32 q) (g (tt, (m, tt)))
    by false q g = absurd g

root_back : (content : List Content) (here : Level) (t : Tree) (b : ℕ) (bs : List ℕ) → IsMark class.Letter b
    → Goes (starting_at (place_outside content) [] here b) bs t → Outside here content (60 ∷ b ∷ bs) t
root_back [] here t b bs m g = (misc_end, 60 ∷ b ∷ bs, tt, refl, below_back [] here t b bs m g)
root_back (c ∷ cs) here t b bs m g = absurd g

start_back : (outer : List Level) (here : Level) (seen : Seen) (t : Tree) (b : ℕ) (bs : List ℕ) → IsMark class.Letter b
    → Goes (starting_at (place_of outer here) outer here b) bs t → Follows outer here seen (60 ∷ b ∷ bs) t
start_back [] here seen t b bs m g = root_back here.content here t b bs m g
start_back (parent ∷ above) here seen t b bs m g = below_back (parent ∷ above) here t b bs m g seen

no_end : (content : List Content) (here : Level) (t : Tree) (bs : List ℕ) → Goes (ending_at (place_outside content) [] here) bs t → ⊥
no_end [] here t bs g = g
no_end (c ∷ cs) here t bs g = g

end_back : (outer : List Level) (here : Level) (seen : Seen) (t : Tree) (bs : List ℕ)
    → Goes (ending_at (place_of outer here) outer here) bs t → Follows outer here seen (60 ∷ 47 ∷ bs) t
end_back [] here seen t bs g = absurd (no_end here.content here t bs g)
end_back (parent ∷ above) here seen t bs g = end_follows parent above here seen t bs g.0 g.1 g.2 g.3 g.4

pub open_back : (outer : List Level) (here : Level) (t : Tree) (b : ℕ) (bs : List ℕ) (k : Class) → IsMark k b
    → Goes (open_after outer here b k) bs t → Leads outer here mode.Open (b ∷ bs) t
open_back outer here t b bs class.Exclamation m g = λ seen. subst (λ x. Follows outer here seen (60 ∷ x ∷ bs) t) (sym m) (g seen)
open_back outer here t b bs class.Slash m g =
    λ seen. subst (λ x. Follows outer here seen (60 ∷ x ∷ bs) t) (sym m) (end_back outer here seen t bs g)
open_back outer here t b bs class.Letter m g = λ seen. start_back outer here seen t b bs m g
open_back outer here t b bs _ m g = absurd g

no_section : (content : List Content) (here : Level) (t : Tree) (bs : List ℕ) → Goes (section_at (place_outside content) [] here) bs t → ⊥
no_section [] here t bs g = g
no_section (c ∷ cs) here t bs g = g

bracket_back : (outer : List Level) (here : Level) (seen : Seen) (t : Tree) (bs : List ℕ)
    → Goes (section_at (place_of outer here) outer here) bs t → Follows outer here seen (60 ∷ 33 ∷ 91 ∷ bs) t
bracket_back [] here seen t bs g = absurd (no_section here.content here t bs g)
bracket_back (parent ∷ above) here seen t bs g =
    subst (λ x. Follows (parent ∷ above) here seen (60 ∷ 33 ∷ 91 ∷ x) t) (sym g.1) (section_follows parent above here seen t g.0 g.2)

exclaimed_back : (outer : List Level) (here : Level) (t : Tree) (b : ℕ) (bs : List ℕ) (k : Class) → IsMark k b
    → Goes (exclaimed_after outer here k) bs t → Leads outer here mode.Exclaimed (b ∷ bs) t
exclaimed_back outer here t b bs class.Hyphen m g = λ seen. subst (λ x. Follows outer here seen (60 ∷ 33 ∷ x ∷ bs) t) (sym m) (g seen)
exclaimed_back outer here t b bs class.OpenBracket m g =
    λ seen. subst (λ x. Follows outer here seen (60 ∷ 33 ∷ x ∷ bs) t) (sym m) (bracket_back outer here seen t bs g)
exclaimed_back outer here t b bs _ m g = absurd g

hyphened_back : (outer : List Level) (here : Level) (t : Tree) (b : ℕ) (bs : List ℕ) (k : Class) → IsMark k b
    → Goes (hyphened_after outer here k) bs t → Leads outer here mode.Hyphened (b ∷ bs) t
hyphened_back outer here t b bs class.Hyphen m g =
    λ seen. subst (λ x. Follows outer here seen (60 ∷ 33 ∷ 45 ∷ x ∷ bs) t) (sym m) (comment_follows outer here seen t bs g)
hyphened_back outer here t b bs _ m g = absurd g

slashed_back : (outer : List Level) (here : Level) (t : Tree) (o : Opening) (b : ℕ) (bs : List ℕ) (k : Class) → IsMark k b
    → Goes (slashed_after outer here o k) bs t → Leads outer here (mode.Slashed o) (b ∷ bs) t
slashed_back outer here t o b bs class.Greater m g = (bs, ap (λ x. x ∷ bs) m, g)
slashed_back outer here t o b bs _ m g = absurd g

-- ---- end tags

end_more : (outer : List Level) (here : Level) (t : Tree) (x b : ℕ) (name bs : List ℕ) → x ≡ b → LeadsEnd outer here t name bs
    → LeadsEnd outer here t (x ∷ name) (b ∷ bs)
end_more [] here t x b name bs e l = absurd l
end_more (parent ∷ above) here t x b name bs e l =
    (l.0, l.1, l.2, ap (λ y. b ∷ y) l.3 ∙ ap (λ y. y ∷ (name ++ (l.0 ++ 62 ∷ l.1))) (sym e), l.4)

end_name_back : (outer : List Level) (here : Level) (t : Tree) (name : List ℕ) (b : ℕ) (bs : List ℕ)
    → Goes (end_name_after outer here name b) bs t → LeadsEnd outer here t name (b ∷ bs)
end_name_back outer here t [] b bs g = absurd g
end_name_back outer here t (x ∷ []) b bs g = by (x == b) refl g
  where
    by : (q : Bool) → (x == b) ≡ q → Goes (end_name_by outer here (cond q meeting.Whole meeting.Wrong)) bs t
        → LeadsEnd outer here t (x ∷ []) (b ∷ bs)
    by true q g = end_more outer here t x b [] bs (eqb-true x b q) g
    by false q g = absurd g
end_name_back outer here t (x ∷ y ∷ more) b bs g = by (x == b) refl g
  where
    by : (q : Bool) → (x == b) ≡ q → Goes (end_name_by outer here (cond q (meeting.On (y ∷ more)) meeting.Wrong)) bs t
        → LeadsEnd outer here t (x ∷ y ∷ more) (b ∷ bs)
    by true q g = end_more outer here t x b (y ∷ more) bs (eqb-true x b q) g
    by false q g = absurd g

end_white : (outer : List Level) (here : Level) (t : Tree) (b : ℕ) (bs : List ℕ) → IsMark class.Space b → LeadsEnd outer here t [] bs
    → LeadsEnd outer here t [] (b ∷ bs)
end_white [] here t b bs m l = absurd l
end_white (parent ∷ above) here t b bs m l = (b ∷ l.0, l.1, (m, l.2), ap (λ y. b ∷ y) l.3, l.4)

closed_back : (outer : List Level) (here : Level) (t : Tree) (bs : List ℕ) → Goes (closed outer here) bs t
    → LeadsEnd outer here t [] (62 ∷ bs)
closed_back [] here t bs g = absurd g
closed_back (parent ∷ above) here t bs g = ([], bs, tt, refl, g)

end_space_back : (outer : List Level) (here : Level) (t : Tree) (b : ℕ) (bs : List ℕ) (k : Class) → IsMark k b
    → Goes (end_space_after outer here k) bs t → LeadsEnd outer here t [] (b ∷ bs)
end_space_back outer here t b bs class.Space m g = end_white outer here t b bs m g
end_space_back outer here t b bs class.Greater m g = subst (λ x. LeadsEnd outer here t [] (x ∷ bs)) (sym m) (closed_back outer here t bs g)
end_space_back outer here t b bs _ m g = absurd g

-- ---- each state

pub goes_back : (outer : List Level) (here : Level) (m : Mode) (b : ℕ) (bs : List ℕ) (t : Tree) → Goes (act outer here m b) bs t
    → Leads outer here m (b ∷ bs) t
goes_back outer here mode.Begin b bs t g = tt
goes_back outer here mode.MarkOne b bs t g = tt
goes_back outer here mode.MarkTwo b bs t g = tt
goes_back outer here mode.First b bs t g = tt
goes_back outer here mode.FirstOpen b bs t g = tt
goes_back outer here (mode.Declaring heading) b bs t g = tt
goes_back outer here (mode.Inside seen) b bs t g = inside_back outer here seen t b bs (class_of b) refl (mark_told b) g
goes_back outer here mode.Open b bs t g = open_back outer here t b bs (class_of b) (mark_told b) g
goes_back outer here mode.Exclaimed b bs t g = exclaimed_back outer here t b bs (class_of b) (mark_told b) g
goes_back outer here mode.Hyphened b bs t g = hyphened_back outer here t b bs (class_of b) (mark_told b) g
goes_back outer here (mode.Comment seen) b bs t g = comment_back outer here seen t b bs (class_of b) refl g
goes_back outer here (mode.Bracketed count) b bs t g = bracketed_back outer here count t b bs g
goes_back outer here (mode.Section body seen) b bs t g = section_back outer here body seen t b bs (class_of b) refl g
goes_back outer here (mode.Reference partial) b bs t g = reference_back outer here partial t b bs g
goes_back outer here (mode.TagName name) b bs t g = tag_name_back outer here t name b bs (class_of b) refl g
goes_back outer here (mode.InTag tag spaced) b bs t g = in_tag_back outer here t tag spaced b bs (class_of b) (mark_told b) g
goes_back outer here (mode.AttributeName tag name) b bs t g = attribute_name_back outer here t tag name b bs (class_of b) refl g
goes_back outer here (mode.Equals tag name) b bs t g = equals_back outer here t tag name b bs (class_of b) (mark_told b) g
goes_back outer here (mode.Quote tag name) b bs t g = quote_back outer here t tag name b bs (class_of b) (mark_told b) g
goes_back outer here (mode.Value tag a quote) b bs t g = value_back outer here t tag a quote b bs (class_of b) refl g
goes_back outer here (mode.ValueReference tag a quote partial) b bs t g = value_reference_back outer here t tag a quote partial b bs g
goes_back outer here (mode.Slashed o) b bs t g = slashed_back outer here t o b bs (class_of b) (mark_told b) g
goes_back outer here (mode.EndName name) b bs t g = end_name_back outer here t name b bs g
goes_back outer here mode.EndSpace b bs t g = end_space_back outer here t b bs (class_of b) (mark_told b) g

-- ---- all bytes

no_tree : (t : Tree) → ◌≡◌ {A = Option Tree} None (Some t) → ⊥
no_tree t e = cc

outside_ends : (here : Level) (content : List Content) (t : Tree) → root_of content ≡ Some t → Outside here content [] t
outside_ends here [] t e = absurd (no_tree t e)
outside_ends here (c ∷ cs) t e = (misc_end, tt, refl, e)

ends : (s : State) (t : Tree) → ended_at s ≡ Some t → Goes s [] t
ends (Refused r) t e = absurd (no_tree t e)
ends (At [] here (mode.Inside seen)) t e = outside_ends here here.content t e
ends (At [] here _) t e = absurd (no_tree t e)
ends (At (parent ∷ above) here m) t e = absurd (no_tree t e)

step_back : (s : State) (b : ℕ) (bs : List ℕ) (t : Tree) → Goes (state_after s b) bs t → Goes s (b ∷ bs) t
unfolding state_after
step_back (Refused r) b bs t g = g
step_back (At outer here m) b bs t g = goes_back outer here m b bs t g

-- where the states end with a tree, the bytes may follow in the state before them
pub leads : (bs : List ℕ) (s : State) (t : Tree) → ended_at (steps s bs) ≡ Some t → Goes s bs t
leads [] s t e = ends s t (ap ended_at (sym (none s)) ∙ e)
leads (b ∷ bs) s t e = step_back s b bs t (leads bs (state_after s b) t (ap ended_at (sym (one s (state_after s b) b bs refl)) ∙ e))
