-- Inside: the XML declaration, byte by byte.
use Rattle.std.specs.Prelude.{ℕ, List, Bool, true, false, cond, ◌==◌, nat_lt, codes}
use Rattle.std.specs.Char.{to_ascii_lowercase}
use Rattle.ba_xml_words.specs.inside.Words.{reached_at}
use Rattle.ba_xml_words.specs.declared.classes.Class.{Class}
use Rattle.ba_xml_words.specs.declared.classes.Class.TheVariants as class
use Rattle.ba_xml_words.specs.declared.words.Progress.{Progress}
use Rattle.ba_xml_words.specs.declared.words.Progress.TheVariants as progress
use Rattle.ba_xml_words.specs.declared.headings.Item.{Item}
use Rattle.ba_xml_words.specs.declared.headings.Item.TheVariants as item
use Rattle.ba_xml_words.specs.declared.headings.Setting.{Setting}
use Rattle.ba_xml_words.specs.declared.headings.Setting.TheVariants as setting
use Rattle.ba_xml_words.specs.declared.headings.Heading.{Heading}
use Rattle.ba_xml_words.specs.declared.headings.Heading.TheVariants as heading
use Rattle.ba_xml_words.specs.declared.headings.Declared.{Declared}
use Rattle.ba_xml_words.specs.declared.headings.Declared.TheVariants.{Wrong, On, Whole}

abbrev pub item_text : Item → List ℕ
item_text item.Version = codes "version"
item_text item.Encoding = codes "encoding"
item_text item.Standalone = codes "standalone"

abbrev pub setting_text : Setting → List ℕ
setting_text setting.OneZero = codes "1.0"
setting_text setting.Utf8 = codes "utf-8"
setting_text setting.Yes = codes "yes"
setting_text setting.No = codes "no"

abbrev pub first_setting : Item → Setting
first_setting item.Version = setting.OneZero
first_setting item.Encoding = setting.Utf8
first_setting item.Standalone = setting.Yes

abbrev pub target_by : Progress → Declared
target_by progress.Nowhere = Wrong
target_by (progress.Part more) = On (heading.Target more)
target_by progress.Whole = On (heading.Blank false)

abbrev pub target_after : ℕ → ℕ → Declared
target_after count b = target_by (reached_at (codes "xml") count b)

abbrev pub begun_by : Item → Progress → Declared
begun_by i progress.Nowhere = Wrong
begun_by i (progress.Part more) = On (heading.Word i more)
begun_by i progress.Whole = Wrong

abbrev pub item_begun : Item → ℕ → Declared
item_begun i b = begun_by i (reached_at (item_text i) 0 b)

abbrev pub blank_after : Bool → ℕ → Class → Declared
blank_after spaced b class.Space = On (heading.Blank true)
blank_after spaced b _ = cond spaced (item_begun item.Version b) Wrong

-- "e"
abbrev pub version_over : ℕ → Declared
version_over b = cond (b == 101) (item_begun item.Encoding b) (item_begun item.Standalone b)

abbrev pub later_item : Item → ℕ → Declared
later_item item.Version b = version_over b
later_item item.Encoding b = item_begun item.Standalone b
later_item item.Standalone b = Wrong

abbrev pub next_item : Item → Bool → ℕ → Declared
next_item i spaced b = cond spaced (later_item i b) Wrong

abbrev pub behind_after : Item → Bool → ℕ → Class → Declared
behind_after i spaced b class.Space = On (heading.Behind i true)
behind_after i spaced b class.Question = On heading.Close
behind_after i spaced b _ = next_item i spaced b

abbrev pub word_by : Item → Progress → Declared
word_by i progress.Nowhere = Wrong
word_by i (progress.Part more) = On (heading.Word i more)
word_by i progress.Whole = On (heading.Equals i)

abbrev pub word_after : Item → ℕ → ℕ → Declared
word_after i count b = word_by i (reached_at (item_text i) count b)

abbrev pub equals_after : Item → Class → Declared
equals_after i class.Space = On (heading.Equals i)
equals_after i class.EqualsSign = On (heading.Quote i)
equals_after i _ = Wrong

abbrev pub quote_after : Item → ℕ → Class → Declared
quote_after i b class.Space = On (heading.Quote i)
quote_after i b class.Apostrophe = On (heading.Said i b (first_setting i) 0)
quote_after i b class.DoubleQuote = On (heading.Said i b (first_setting i) 0)
quote_after i b _ = Wrong

-- "n"
abbrev pub yes_unless : ℕ → Setting
yes_unless b = cond (b == 110) setting.No setting.Yes

abbrev pub setting_at_first : Setting → ℕ → Setting
setting_at_first setting.Yes b = yes_unless b
setting_at_first s b = s

abbrev pub setting_by : Setting → ℕ → ℕ → Setting
setting_by s count b = cond (nat_lt 0 count) s (setting_at_first s b)

abbrev pub spelling : Setting → ℕ → ℕ
spelling setting.Utf8 b = to_ascii_lowercase b
spelling _ b = b

abbrev pub said_by : Item → ℕ → Setting → Progress → Declared
said_by i quote s progress.Nowhere = Wrong
said_by i quote s (progress.Part more) = On (heading.Said i quote s more)
said_by i quote s progress.Whole = On (heading.SaidAll i quote)

abbrev pub said_as : Item → ℕ → ℕ → ℕ → Setting → Declared
said_as i quote count b s = said_by i quote s (reached_at (setting_text s) count (spelling s b))

abbrev pub said_after : Item → ℕ → Setting → ℕ → ℕ → Declared
said_after i quote s count b = said_as i quote count b (setting_by s count b)

abbrev pub said_all_after : Item → ℕ → ℕ → Declared
said_all_after i quote b = cond (b == quote) (On (heading.Behind i false)) Wrong

abbrev pub closed_after : Class → Declared
closed_after class.Greater = Whole
closed_after _ = Wrong

-- where the declaration stands after this byte
unfoldable pub heading_after : Heading → ℕ → Class → Declared
heading_after (heading.Target count) b k = target_after count b
heading_after (heading.Blank spaced) b k = blank_after spaced b k
heading_after (heading.Behind i spaced) b k = behind_after i spaced b k
heading_after (heading.Word i count) b k = word_after i count b
heading_after (heading.Equals i) b k = equals_after i k
heading_after (heading.Quote i) b k = quote_after i b k
heading_after (heading.Said i quote s count) b k = said_after i quote s count b
heading_after (heading.SaidAll i quote) b k = said_all_after i quote b
heading_after heading.Close b k = closed_after k
