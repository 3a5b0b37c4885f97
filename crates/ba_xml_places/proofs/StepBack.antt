-- One byte backward in each state of the machine.
use Rattle.std.proofs.Common.{◌≡◌, ℕ, Bool, true, false, cond, ◌==◌, nat_lt, List, [], ◌∷◌, ◌++◌, length, refl, sym, ap, subst, ◌∙◌}
use Rattle.std.proofs.lemmas.Bool.{eqb-true}
use Rattle.ba_tree.specs.declared.trees.Content.{Content}
use Rattle.ba_tree.specs.declared.trees.Content.TheVariants.{Child}
use Rattle.ba_xml_places.proofs.ContentBack.{comment_back, section_back, bracketed_back, reference_back, inside_back}
use Rattle.ba_xml_places.proofs.Elements.{Stands, tag_stands}
use Rattle.ba_xml_reader.proofs.SoundDeclaring.{HeadingGoes, heading_back}
use Rattle.ba_xml_places.proofs.Leads.{Headed, IsBegun, LeadsEnd, Leads, Goes}
use Rattle.ba_xml_places.proofs.Live.{LiveMode}
use Rattle.ba_xml_places.proofs.Pieces.{Here, Outside, comment_follows, space_follows, section_follows, end_follows, element_behind}
use Rattle.ba_xml_places.proofs.TagsBack.{in_tag_back, tag_name_back, equals_back, attribute_name_back, quote_back, value_back}
use Rattle.ba_xml_places.proofs.TagsBack.{value_reference_back, slashed_back}
use Rattle.ba_xml_reader.proofs.SoundHeadings.{head_of}
use Rattle.ba_xml_reader.proofs.SoundKinds.{IsMark, mark_told}
use Rattle.ba_xml_words.specs.Classes.{class_of}
use Rattle.ba_xml_words.specs.inside.Headings.{heading_after}
use Rattle.ba_xml_words.specs.inside.Names.{one_letter}
use Rattle.ba_xml_reader.specs.inside.Content.{begin_after, wanted_after, mark_one_after, mark_two_after, first_after, first_open_after}
use Rattle.ba_xml_reader.specs.inside.Content.{open_after, starting_at, below, ending_at, exclaimed_after, section_at, hyphened_after}
use Rattle.ba_xml_reader.specs.inside.Content.{declaring_by}
use Rattle.ba_xml_names.specs.inside.Levels.{place_of, place_outside, tree_of}
use Rattle.ba_xml_reader.specs.inside.Machine.{act}
use Rattle.ba_xml_reader.specs.inside.Tags.{end_name_by, end_name_after, end_space_after, closed}
use Rattle.ba_xml_grammar.specs.Grammar.{misc_end, no_head}
use Rattle.ba_xml_words.specs.declared.classes.Class.{Class}
use Rattle.ba_xml_words.specs.declared.classes.Class.TheVariants as class
use Rattle.ba_xml_words.specs.declared.faults.Reason.TheVariants.{Syntax, Depth}
use Rattle.ba_xml_words.specs.declared.headings.Declared.{Declared}
use Rattle.ba_xml_words.specs.declared.headings.Declared.TheVariants as declared'
use Rattle.ba_xml_names.specs.declared.levels.Level.{Level}
use Rattle.ba_xml_words.specs.declared.remaining.Meeting.TheVariants as meeting
use Rattle.ba_xml_reader.specs.declared.states.Mode.{Mode}
use Rattle.ba_xml_reader.specs.declared.states.Mode.TheVariants as mode
use Rattle.ba_xml_reader.specs.declared.states.Seen.{Seen}
use Rattle.ba_xml_reader.specs.declared.states.Seen.TheVariants.{Zero}
use Rattle.ba_xml_reader.specs.declared.states.State.TheVariants.{Refused, At}

-- ---- between tags

below_back : (outer : List Level) (here : Level) (b : ℕ) (bs : List ℕ) → Goes (below outer here b) bs → Stands outer here (60 ∷ b ∷ bs)
below_back outer here b bs g = by (nat_lt (length outer) 32) g
  where
    by : (q : Bool) → Goes (cond q (At outer here (mode.TagName (one_letter b))) (Refused Depth)) bs → Stands outer here (60 ∷ b ∷ bs)
    by true g = tag_stands outer here b bs g
    by false g = absurd g

root_back : (content : List Content) (here : Level) (b : ℕ) (bs : List ℕ) → Goes (starting_at (place_outside content) [] here b) bs
    → Outside content (60 ∷ b ∷ bs)
root_back [] here b bs g = (misc_end, 60 ∷ b ∷ bs, tt, refl, below_back [] here b bs g)
root_back (c ∷ cs) here b bs g = absurd g

start_back : (outer : List Level) (here : Level) (seen : Seen) (b : ℕ) (bs : List ℕ)
    → Goes (starting_at (place_of outer here) outer here b) bs
    → Here outer here seen (60 ∷ b ∷ bs)
start_back [] here seen b bs g = root_back here.content here b bs g
start_back (parent ∷ above) here seen b bs g = below_back (parent ∷ above) here b bs g seen

no_end : (content : List Content) (here : Level) (bs : List ℕ) → Goes (ending_at (place_outside content) [] here) bs → ⊥
no_end [] here bs g = g
no_end (c ∷ cs) here bs g = g

end_back : (outer : List Level) (here : Level) (seen : Seen) (bs : List ℕ) → Goes (ending_at (place_of outer here) outer here) bs
    → Here outer here seen (60 ∷ 47 ∷ bs)
end_back [] here seen bs g = absurd (no_end here.content here bs g)
end_back (parent ∷ above) here seen bs g = end_follows parent above here.spelled seen bs g.0 g.1 g.2 g.3 g.4

open_back : (outer : List Level) (here : Level) (b : ℕ) (bs : List ℕ) (k : Class) → IsMark k b → Goes (open_after outer here b k) bs
    → Leads outer here mode.Open (b ∷ bs)
open_back outer here b bs class.Exclamation m g = λ seen. subst (λ x. Here outer here seen (60 ∷ x ∷ bs)) (sym m) (g seen)
open_back outer here b bs class.Slash m g = λ seen. subst (λ x. Here outer here seen (60 ∷ x ∷ bs)) (sym m) (end_back outer here seen bs g)
open_back outer here b bs class.Letter m g = λ seen. start_back outer here seen b bs g
open_back outer here b bs _ m g = absurd g

no_section : (content : List Content) (here : Level) (bs : List ℕ) → Goes (section_at (place_outside content) [] here) bs → ⊥
no_section [] here bs g = g
no_section (c ∷ cs) here bs g = g

bracket_back : (outer : List Level) (here : Level) (seen : Seen) (bs : List ℕ) → Goes (section_at (place_of outer here) outer here) bs
    → Here outer here seen (60 ∷ 33 ∷ 91 ∷ bs)
bracket_back [] here seen bs g = absurd (no_section here.content here bs g)
bracket_back (parent ∷ above) here seen bs g = subst (λ x. Here (parent ∷ above) here seen (60 ∷ 33 ∷ 91 ∷ x)) (sym g.1)
    (section_follows parent above here.spelled seen g.0 g.2)

exclaimed_back : (outer : List Level) (here : Level) (b : ℕ) (bs : List ℕ) (k : Class) → IsMark k b → Goes (exclaimed_after outer here k) bs
    → Leads outer here mode.Exclaimed (b ∷ bs)
exclaimed_back outer here b bs class.Hyphen m g = λ seen. subst (λ x. Here outer here seen (60 ∷ 33 ∷ x ∷ bs)) (sym m) (g seen)
exclaimed_back outer here b bs class.OpenBracket m g =
    λ seen. subst (λ x. Here outer here seen (60 ∷ 33 ∷ x ∷ bs)) (sym m) (bracket_back outer here seen bs g)
exclaimed_back outer here b bs _ m g = absurd g

hyphened_back : (outer : List Level) (here : Level) (b : ℕ) (bs : List ℕ) (k : Class) → IsMark k b → Goes (hyphened_after outer here k) bs
    → Leads outer here mode.Hyphened (b ∷ bs)
hyphened_back outer here b bs class.Hyphen m g = λ seen. subst (λ x. Here outer here seen (60 ∷ 33 ∷ 45 ∷ x ∷ bs)) (sym m)
    (comment_follows outer here.content here.spelled seen bs g)
hyphened_back outer here b bs _ m g = absurd g

-- ---- the beginning

bare : (outer : List Level) (here : Level) (bs : List ℕ) → Here outer here Zero bs → Headed outer here bs
bare outer here bs l = (no_head, bs, tt, refl, l)

spaced_back : (outer : List Level) (here : Level) (b : ℕ) (bs : List ℕ) → IsMark class.Space b → Here outer here Zero bs
    → Headed outer here (b ∷ bs)
spaced_back outer here b bs m l = bare outer here (b ∷ bs) (space_follows outer here.content here.spelled b bs m l)

wanted_back : (outer : List Level) (here : Level) (b n : ℕ) (bs : List ℕ) (m : Mode) → Goes (wanted_after outer here b n m) bs
    → (b ≡ n) × Leads outer here m bs
wanted_back outer here b n bs m g = by (b == n) refl g
  where
    by : (q : Bool) → (b == n) ≡ q → Goes (cond q (At outer here m) (Refused Syntax)) bs → (b ≡ n) × Leads outer here m bs
    by true q g = (eqb-true b n q, g)
    by false q g = absurd g

begin_back : (outer : List Level) (here : Level) (b : ℕ) (bs : List ℕ) (k : Class) → IsMark k b → Goes (begin_after outer here b k) bs
    → IsBegun outer here (b ∷ bs)
begin_back outer here b bs class.Less m g = (false, b ∷ bs, refl, subst (λ x. Headed outer here (x ∷ bs)) (sym m) g)
begin_back outer here b bs class.Space m g = (false, b ∷ bs, refl, spaced_back outer here b bs m g)
begin_back outer here b bs class.High m g =
    let w = wanted_back outer here b 0xEF bs mode.MarkOne g in
    (true, w.1.0, ap (λ x. x ∷ bs) w.0 ∙ ap (λ x. 0xEF ∷ x) w.1.1, w.1.2)
begin_back outer here b bs _ m g = absurd g

mark_one_back : (outer : List Level) (here : Level) (b : ℕ) (bs : List ℕ) → Goes (mark_one_after outer here b) bs
    → Leads outer here mode.MarkOne (b ∷ bs)
mark_one_back outer here b bs g =
    let w = wanted_back outer here b 0xBB bs mode.MarkTwo g in
    (w.1.0, ap (λ x. x ∷ bs) w.0 ∙ ap (λ x. 0xBB ∷ x) w.1.1, w.1.2)

mark_two_back : (outer : List Level) (here : Level) (b : ℕ) (bs : List ℕ) → Goes (mark_two_after outer here b) bs
    → Leads outer here mode.MarkTwo (b ∷ bs)
mark_two_back outer here b bs g = let w = wanted_back outer here b 0xBF bs mode.First g in (bs, ap (λ x. x ∷ bs) w.0, w.1)

first_back : (outer : List Level) (here : Level) (b : ℕ) (bs : List ℕ) (k : Class) → IsMark k b → Goes (first_after outer here k) bs
    → Headed outer here (b ∷ bs)
first_back outer here b bs class.Less m g = subst (λ x. Headed outer here (x ∷ bs)) (sym m) g
first_back outer here b bs class.Space m g = spaced_back outer here b bs m g
first_back outer here b bs _ m g = absurd g

first_open_back : (outer : List Level) (here : Level) (b : ℕ) (bs : List ℕ) (k : Class) → IsMark k b
    → Goes (first_open_after outer here b k) bs
    → Headed outer here (60 ∷ b ∷ bs)
first_open_back outer here b bs class.Question m g = subst (λ x. Headed outer here (60 ∷ x ∷ bs)) (sym m)
    (subst (λ x. Headed outer here (60 ∷ 63 ∷ x)) (sym g.1) (head_of (λ rest. Here outer here Zero rest) g.0 g.2))
first_open_back outer here b bs k m g = bare outer here (60 ∷ b ∷ bs) (open_back outer here b bs k m g Zero)

declared_goes : (outer : List Level) (here : Level) (bs : List ℕ) (d : Declared) → Goes (declaring_by outer here d) bs
    → HeadingGoes (λ rest. Here outer here Zero rest) d bs
declared_goes outer here bs declared'.Wrong g = g
declared_goes outer here bs (declared'.On more) g = g
declared_goes outer here bs declared'.Whole g = g

-- ---- end tags

end_more : (outer : List Level) (x b : ℕ) (name bs : List ℕ) → x ≡ b → LeadsEnd outer name bs → LeadsEnd outer (x ∷ name) (b ∷ bs)
end_more [] x b name bs e l = absurd l
end_more (parent ∷ above) x b name bs e l =
    (l.0, l.1, l.2, ap (λ y. b ∷ y) l.3 ∙ ap (λ y. y ∷ (name ++ (l.0 ++ 62 ∷ l.1))) (sym e), l.4)

end_name_back : (outer : List Level) (here : Level) (name : List ℕ) (b : ℕ) (bs : List ℕ) → Goes (end_name_after outer here name b) bs
    → LeadsEnd outer name (b ∷ bs)
end_name_back outer here [] b bs g = absurd g
end_name_back outer here (x ∷ []) b bs g = by (x == b) refl g
  where
    by : (q : Bool) → (x == b) ≡ q → Goes (end_name_by outer here (cond q meeting.Whole meeting.Wrong)) bs
        → LeadsEnd outer (x ∷ []) (b ∷ bs)
    by true q g = end_more outer x b [] bs (eqb-true x b q) g
    by false q g = absurd g
end_name_back outer here (x ∷ y ∷ more) b bs g = by (x == b) refl g
  where
    by : (q : Bool) → (x == b) ≡ q → Goes (end_name_by outer here (cond q (meeting.On (y ∷ more)) meeting.Wrong)) bs
        → LeadsEnd outer (x ∷ y ∷ more) (b ∷ bs)
    by true q g = end_more outer x b (y ∷ more) bs (eqb-true x b q) g
    by false q g = absurd g

end_white : (outer : List Level) (b : ℕ) (bs : List ℕ) → IsMark class.Space b → LeadsEnd outer [] bs → LeadsEnd outer [] (b ∷ bs)
end_white [] b bs m l = absurd l
end_white (parent ∷ above) b bs m l = (b ∷ l.0, l.1, (m, l.2), ap (λ y. b ∷ y) l.3, l.4)

closed_back : (outer : List Level) (here : Level) (bs : List ℕ) → Goes (closed outer here) bs → LeadsEnd outer [] (62 ∷ bs)
closed_back [] here bs g = absurd g
closed_back (parent ∷ above) here bs g = ([], bs, tt, refl, element_behind above parent.content (Child (tree_of here)) parent.spelled bs g)

end_space_back : (outer : List Level) (here : Level) (b : ℕ) (bs : List ℕ) (k : Class) → IsMark k b → Goes (end_space_after outer here k) bs
    → LeadsEnd outer [] (b ∷ bs)
end_space_back outer here b bs class.Space m g = end_white outer b bs m g
end_space_back outer here b bs class.Greater m g = subst (λ x. LeadsEnd outer [] (x ∷ bs)) (sym m) (closed_back outer here bs g)
end_space_back outer here b bs _ m g = absurd g

-- ---- each state

pub goes_back : (outer : List Level) (here : Level) (m : Mode) (last b : ℕ) (bs : List ℕ) → LiveMode last outer m
    → Goes (act outer here m b) bs
    → Leads outer here m (b ∷ bs)
goes_back outer here mode.Begin last b bs v g = begin_back outer here b bs (class_of b) (mark_told b) g
goes_back outer here mode.MarkOne last b bs v g = mark_one_back outer here b bs g
goes_back outer here mode.MarkTwo last b bs v g = mark_two_back outer here b bs g
goes_back outer here mode.First last b bs v g = first_back outer here b bs (class_of b) (mark_told b) g
goes_back outer here mode.FirstOpen last b bs v g = first_open_back outer here b bs (class_of b) (mark_told b) g
goes_back outer here (mode.Declaring h) last b bs v g =
    heading_back (λ rest. Here outer here Zero rest) h b bs (declared_goes outer here bs (heading_after h b (class_of b)) g)
goes_back outer here (mode.Inside seen) last b bs v g = inside_back outer here seen b bs (class_of b) refl (mark_told b) g
goes_back outer here mode.Open last b bs v g = open_back outer here b bs (class_of b) (mark_told b) g
goes_back outer here mode.Exclaimed last b bs v g = exclaimed_back outer here b bs (class_of b) (mark_told b) g
goes_back outer here mode.Hyphened last b bs v g = hyphened_back outer here b bs (class_of b) (mark_told b) g
goes_back outer here (mode.Comment seen) last b bs v g = comment_back outer here seen b bs (class_of b) refl g
goes_back outer here (mode.Bracketed count) last b bs v g = bracketed_back outer here count b bs g
goes_back outer here (mode.Section body seen) last b bs v g = section_back outer here body seen b bs (class_of b) refl g
goes_back outer here (mode.Reference partial) last b bs v g = reference_back outer here partial b bs g
goes_back outer here (mode.TagName name) last b bs v g = tag_name_back outer here name b bs (class_of b) refl v g
goes_back outer here (mode.InTag t spaced) last b bs v g = in_tag_back outer here t spaced b bs (class_of b) (mark_told b) g
goes_back outer here (mode.AttributeName t name) last b bs v g = attribute_name_back outer here t name b bs (class_of b) refl v.1 g
goes_back outer here (mode.Equals t name) last b bs v g = equals_back outer here t name b bs (class_of b) (mark_told b) g
goes_back outer here (mode.Quote t name) last b bs v g = quote_back outer here t name b bs (class_of b) (mark_told b) g
goes_back outer here (mode.Value t a quote) last b bs v g = value_back outer here t a quote b bs (class_of b) refl g
goes_back outer here (mode.ValueReference t a quote partial) last b bs v g = value_reference_back outer here t a quote partial b bs g
goes_back outer here (mode.Slashed o) last b bs v g = slashed_back outer here o b bs (class_of b) (mark_told b) g
goes_back outer here (mode.EndName name) last b bs v g = end_name_back outer here name b bs g
goes_back outer here mode.EndSpace last b bs v g = end_space_back outer here b bs (class_of b) (mark_told b) g
