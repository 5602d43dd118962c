-- What the arguments of the command line ask for, by clap's function of the arguments for a simple command.
use Rattle.std.specs.Prelude.{◌≡◌, ◌⊎◌, ◌≤◌, ℕ, Bool, true, false, List, [], ◌∷◌, Option, Some, None, codes, filter}
use Rattle.std.specs.Prelude.{length, map, option_map, unwrap_or, if◌then◌else◌, IsSomeAnd}
use Rattle.std.specs.Str.Parse.{IsNumeral, digits_value, without_leading_plus}
use Rattle.clap.specs.Words.{App, HasKind, Row, Rule, Text, all_of, fault_of, first_of, kind_of, new_app, new_rule}
use Rattle.clap.specs.Words.{subcommand_of, subcommand_rows_of, with_rule, with_subcommand}
use Rattle.std.specs.Str.{bytes_eq}
use Rattle.clap.specs.Simple.{on_top}
use Rattle.clap.specs.declared.builder.action.ArgAction.TheVariants.{Append, SetTrue}
use Rattle.clap.specs.declared.ArgMatches.{ArgMatches}
use Rattle.clap.specs.declared.Error.{Error}
use Rattle.clap.specs.declared.error.ErrorKind.{ErrorKind}
use Rattle.clap.specs.declared.error.ErrorKind.TheVariants as kind
use Rattle.zk_mem.specs.Fresh.{plain_screen}
use Rattle.zk_vm.specs.declared.limits.Limits.{Limits}
use Rattle.zk_vm.specs.Bounds.{AreInRange}
use Rattle.zk_step.specs.declared.state.game_state.View.{View}
use Rattle.zk_step.specs.declared.state.game_state.View.TheVariants.{Plain, Upper}
use Rattle.zk_command.specs.declared.settings.Amount.{Amount}
use Rattle.zk_command.specs.declared.settings.Amount.TheVariants as amount
use Rattle.zk_command.specs.declared.settings.PlayOptions.{PlayOptions}
use Rattle.zk_command.specs.declared.settings.PageOptions.{PageOptions}
use Rattle.zk_command.specs.declared.settings.TestOptions.{TestOptions}
use Rattle.zk_command.specs.declared.settings.CoverOptions.{CoverOptions}
use Rattle.zk_command.specs.declared.settings.Form.{Form}
use Rattle.zk_command.specs.declared.settings.Form.TheVariants.{Lines, Rows, Json, Graph, Picture}
use Rattle.zk_command.specs.declared.settings.Naming.{Naming}
use Rattle.zk_command.specs.declared.settings.Roots.{Roots}
use Rattle.zk_command.specs.declared.settings.ShowOptions.{ShowOptions}
use Rattle.zk_command.specs.declared.choice.Choice.{Choice}
use Rattle.zk_command.specs.declared.choice.Named.{Named as NamedByCommand}
use Rattle.zk_command.specs.declared.options.CommandOption.{CommandOption}
use Rattle.zk_command.specs.declared.options.CommandOption.TheVariants.{Number, Value, Values, Flag, Path, Story}
use Rattle.zk_command.specs.declared.options.CommandOption.TheVariants.{Stories, Walkthroughs, Covers}
use Rattle.zk_command.specs.declared.options.CommandTable.{CommandTable}
use Rattle.zk_command.specs.declared.options.NumberOption.{NumberOption}
use Rattle.zk_command.specs.declared.choice.Choice.TheVariants.{Play, Show, Test, Cover, Unpack, Page}
use Rattle.zk_command.specs.declared.settings.Asked.{Asked}
use Rattle.zk_command.specs.declared.settings.Asked.TheVariants.{Sections, Code, Findings}
use Rattle.zk_inspect.specs.Sections.{all_sections, section_name}
use Rattle.zk_inspect.specs.declared.section.Section.{Section}
use Rattle.zk_inspect.specs.declared.section.Section.TheVariants.{Header}

-- the option `--name`
abbrev pub named_option : Text → Rule
named_option name = record (new_rule name) { long = Some name }

-- the option `--name n`, with what it is where it is not given
abbrev pub number_option : Text → Text → Rule
number_option name default = record (named_option name) { value_names = 1; defaults = default ∷ [] }

-- the path of a story, which has to be given
abbrev pub story_argument : Rule
story_argument = record (new_rule (codes "STORY")) { required = true }

-- the paths of stories, one or more
abbrev pub story_arguments : Rule
story_arguments = record story_argument { action = Some Append }

-- the paths of walkthroughs and folders, or of coverage files and a story, which stand where stories do
abbrev pub path_arguments : Rule
path_arguments = record story_arguments { value_names = 1 }

-- the path of a file, which has to be given
abbrev pub file_argument : Text → Rule
file_argument name = record (new_rule name) { required = true }

-- the option `--name VALUE`, which may be left out
abbrev pub value_option : Text → Rule
value_option name = record (named_option name) { value_names = 1 }

-- the option `--name VALUE`, as often as it is given
abbrev pub repeated_option : Text → Rule
repeated_option name = record (value_option name) { action = Some Append }

-- the flag `--name`
abbrev pub flag : Text → Rule
flag name = record (named_option name) { action = Some SetTrue }

-- an option with a number, by what it is where it is not given
abbrev pub number_by : Text → Option Text → Rule
number_by name None = value_option name
number_by name (Some default) = number_option name default

abbrev pub number_rule : NumberOption → Rule
number_rule o = number_by o.name.now (option_map (λ s. s.now) o.default)

-- an option
abbrev pub option_rule : CommandOption → Rule
option_rule (Number o) = number_rule o
option_rule (Value name value help) = value_option name.now
option_rule (Values name value help) = repeated_option name.now
option_rule (Flag name help) = flag name.now
option_rule (Path name help) = file_argument name.now
option_rule Story = story_argument
option_rule Stories = story_arguments
option_rule Walkthroughs = path_arguments
option_rule Covers = path_arguments

-- the flag of a section
abbrev pub section_rule : Section → Rule
section_rule s = flag (section_name s)

-- a command with rules, one after another
abbrev pub with_rules : App → List Rule → App
with_rules a [] = a
with_rules a (r ∷ rs) = with_rules (with_rule a r) rs

-- the command that a row of the program's table says
abbrev pub table_command : CommandTable → App
table_command t =
    with_rules (with_rules (new_app t.name.now) (map section_rule t.sections.now)) (map option_rule t.options.now)

-- a command line with commands, one after another
abbrev pub with_tables : App → List CommandTable → App
with_tables a [] = a
with_tables a (t ∷ ts) = with_tables (with_subcommand a (table_command t).top) ts

-- `play [--frames n] [--words n] [--undo n] [--steps n] [--seed n] [--save FILE] [--saves FOLDER] [--script FILE]
-- [--upper] [--boxes] [--width n] [--page n] [--styles] [--echo] [--record FILE] [--calls] [--cover FILE]
-- [--names FILE] STORY`
abbrev pub play_command : App
play_command = with_rules (new_app (codes "play")) (
    number_option (codes "frames") (codes "1024")
    ∷ number_option (codes "words") (codes "16384")
    ∷ number_option (codes "undo") (codes "16")
    ∷ number_option (codes "steps") (codes "10000000")
    ∷ number_option (codes "seed") (codes "1")
    ∷ value_option (codes "save")
    ∷ value_option (codes "saves")
    ∷ value_option (codes "script")
    ∷ flag (codes "upper")
    ∷ flag (codes "boxes")
    ∷ value_option (codes "width")
    ∷ value_option (codes "page")
    ∷ flag (codes "styles")
    ∷ flag (codes "echo")
    ∷ value_option (codes "record")
    ∷ flag (codes "calls")
    ∷ value_option (codes "cover")
    ∷ value_option (codes "names")
    ∷ story_argument
    ∷ [])

-- `info [--header] [--map] [--abbreviations] [--dictionary] [--objects] [--tree] [--ifid] [--strings] [--properties]
-- [--globals]
-- [--alphabets] [--extension] [--names FILE] [--notes] [--graph] [--svg] [--rows] [--json] [--recursive]
-- [--files-from FILE] STORY..`
abbrev pub info_command : App
info_command = with_rules (new_app (codes "info")) (
    flag (codes "header")
    ∷ flag (codes "map")
    ∷ flag (codes "abbreviations")
    ∷ flag (codes "dictionary")
    ∷ flag (codes "objects")
    ∷ flag (codes "tree")
    ∷ flag (codes "ifid")
    ∷ flag (codes "strings")
    ∷ flag (codes "properties")
    ∷ flag (codes "globals")
    ∷ flag (codes "alphabets")
    ∷ flag (codes "extension")
    ∷ value_option (codes "names")
    ∷ flag (codes "notes")
    ∷ flag (codes "graph")
    ∷ flag (codes "svg")
    ∷ flag (codes "rows")
    ∷ flag (codes "json")
    ∷ flag (codes "recursive")
    ∷ value_option (codes "files-from")
    ∷ story_arguments
    ∷ [])

-- `disasm [--all] [--at ADDRESS].. [--routine ADDRESS].. [--only] [--cover FILE] [--names FILE] [--source FOLDER]..
-- [--callers] [--notes] [--graph] [--around ROUTINE] [--depth n] STORY`
abbrev pub disasm_command : App
disasm_command = with_rules (new_app (codes "disasm")) (
    flag (codes "all")
    ∷ repeated_option (codes "at")
    ∷ repeated_option (codes "routine")
    ∷ flag (codes "only")
    ∷ value_option (codes "cover")
    ∷ value_option (codes "names")
    ∷ repeated_option (codes "source")
    ∷ flag (codes "callers")
    ∷ flag (codes "notes")
    ∷ flag (codes "graph")
    ∷ value_option (codes "around")
    ∷ value_option (codes "depth")
    ∷ story_argument
    ∷ [])

-- `check [--names FILE] [--notes] [--summary] [--rows] [--json] [--recursive] [--files-from FILE] STORY..`
abbrev pub check_command : App
check_command =
    with_rules (new_app (codes "check")) (value_option (codes "names") ∷ flag (codes "notes")
    ∷ flag (codes "summary") ∷ flag (codes "rows") ∷ flag (codes "json") ∷ flag (codes "recursive")
    ∷ value_option (codes "files-from") ∷ story_arguments ∷ [])

-- `test [--files-from FILE] [--story FILE] [--bless] [--cover FILE] [--names FILE] [--strict] PATH..`
abbrev pub test_command : App
test_command =
    with_rules (new_app (codes "test")) (value_option (codes "files-from") ∷ value_option (codes "story")
    ∷ flag (codes "bless") ∷ value_option (codes "cover") ∷ value_option (codes "names") ∷ flag (codes "strict")
    ∷ path_arguments ∷ [])

-- `cover [--names FILE] [--source FOLDER].. [--lcov FILE] [--html FILE] FILE..`
abbrev pub cover_command : App
cover_command =
    with_rules (new_app (codes "cover")) (value_option (codes "names") ∷ repeated_option (codes "source")
    ∷ value_option (codes "lcov") ∷ value_option (codes "html") ∷ path_arguments ∷ [])

-- `unpack FILE OUT`
abbrev pub unpack_command : App
unpack_command =
    with_rule (with_rule (new_app (codes "unpack")) (file_argument (codes "FILE"))) (file_argument (codes "OUT"))

-- `page [--title TEXT] [--author TEXT] [--blurb FILE] [--cover FILE] [--walkthrough FILE] STORY OUT`
abbrev pub page_command : App
page_command = with_rules (new_app (codes "page")) (
    value_option (codes "title")
    ∷ value_option (codes "author")
    ∷ value_option (codes "blurb")
    ∷ value_option (codes "cover")
    ∷ value_option (codes "walkthrough")
    ∷ story_argument
    ∷ file_argument (codes "OUT")
    ∷ [])

-- zkit's commands that play and list stories
abbrev pub first_commands : App
first_commands =
    with_subcommand
    (with_subcommand
    (with_subcommand
    (with_subcommand (on_top (λ s. record s { has_version = true; subcommand_required = true })
    (new_app (codes "zkit")))
    play_command.top) info_command.top) disasm_command.top) check_command.top

-- zkit's command line: these commands; help and the version are clap's
abbrev pub command_line : App
command_line =
    with_subcommand (with_subcommand (with_subcommand (with_subcommand first_commands test_command.top)
    cover_command.top) unpack_command.top) page_command.top

-- the number that an argument's digits say, with or without a plus before them
abbrev pub number_in : Text → ℕ
number_in argument = digits_value 10 (without_leading_plus argument)

-- an argument is a number in a range: digits, with or without a plus before them
pub record IsNumberIn (least most : ℕ) (argument : Text) : Type 0 where
  pub digits : IsNumeral 10 (without_leading_plus argument)
  pub from_least : least ≤ number_in argument
  pub to_most : number_in argument ≤ most

-- the text that clap found for an option is a number in a range
abbrev pub SaysNumber : List Row → Text → ℕ → ℕ → ℕ → Type 0
SaysNumber rows option least most n =
    IsSomeAnd (first_of option rows) (λ argument. IsNumberIn least most argument × (number_in argument ≡ n))

-- the word of an option for a number that the program finds, if it has one
abbrev pub word_of : NumberOption → Option Text
word_of o = option_map (λ s. s.now) o.word

-- an argument says a number in a range, or is the word for one that the program finds
abbrev pub IsAmount : ℕ → ℕ → Option Text → Text → Amount → Type 0
IsAmount least most word argument (amount.Number n) = IsNumberIn least most argument × (number_in argument ≡ n)
IsAmount least most word argument amount.Found = word ≡ Some argument

-- the text that clap found for an option says such a number, or the option is left out
abbrev pub MaySayAmount : List Row → Text → ℕ → ℕ → Option Text → Option Amount → Type 0
MaySayAmount rows option least most word None = first_of option rows ≡ None
MaySayAmount rows option least most word (Some a) =
    IsSomeAnd (first_of option rows) (λ argument. IsAmount least most word argument a)

-- what clap found says the limits of a run; its screen has 80 columns, and text of one width alone
pub record SaysLimits (rows : List Row) (l : Limits) : Type 0 where
  pub frames : SaysNumber rows (codes "frames") 1 65535 l.frames
  pub words : SaysNumber rows (codes "words") 0 65535 l.words
  pub steps : SaysNumber rows (codes "steps") 1 1000000000 l.steps
  pub undo : SaysNumber rows (codes "undo") 0 64 l.undo
  pub screen : l.screen ≡ plain_screen

-- a flag is given, by the text that clap has for it: `true` where it is
abbrev pub flag_said : Option Text → Bool
flag_said None = false
flag_said (Some argument) = bytes_eq argument (codes "true")

-- what is shown, by `--upper`
abbrev pub view_said : List Row → View
view_said rows = if flag_said (first_of (codes "upper") rows) then Upper else Plain

-- what clap found says the seed: any number of 64 bits, or `any`
abbrev pub SaysSeed : List Row → Amount → Type 0
SaysSeed rows seed = MaySayAmount rows (codes "seed") 0 18446744073709551615 (Some (codes "any")) (Some seed)

-- what clap found for an option, which is taken as it is
abbrev pub SaysText : {S : Type 0} → (S → Text) → List Row → Text → Option S → Type 0
SaysText {S} text rows option said = option_map text said ≡ first_of option rows

-- what clap found says the options of a play: the limits, the seed, the view, whether boxes are shown, files, the
-- columns of the screen and the lines of a page, whether styles and what is read are shown, and calls are told, the
-- file of addresses that ran, and the debugging file
pub record SaysOptions (rows : List Row) (o : PlayOptions) : Type 0 where
  pub limits : SaysLimits rows o.limits
  pub seed : SaysSeed rows o.seed
  pub view : o.view ≡ view_said rows
  pub boxes : o.boxes ≡ flag_said (first_of (codes "boxes") rows)
  pub save : SaysText (λ s. s.now) rows (codes "save") o.save
  pub saves : SaysText (λ s. s.now) rows (codes "saves") o.saves
  pub script : SaysText (λ s. s.now) rows (codes "script") o.script
  pub recorded : SaysText (λ s. s.now) rows (codes "record") o.recorded
  pub width : MaySayAmount rows (codes "width") 20 255 (Some (codes "auto")) o.width
  pub page : MaySayAmount rows (codes "page") 2 1000 (Some (codes "auto")) o.page
  pub styles : o.styles ≡ flag_said (first_of (codes "styles") rows)
  pub echo : o.echo ≡ flag_said (first_of (codes "echo") rows)
  pub calls : o.calls ≡ flag_said (first_of (codes "calls") rows)
  pub cover : SaysText (λ s. s.now) rows (codes "cover") o.cover
  pub names : SaysText (λ s. s.now) rows (codes "names") o.names

-- what clap found says the options of a test
pub record SaysTest (rows : List Row) (o : TestOptions) : Type 0 where
  pub story : SaysText (λ s. s.now) rows (codes "story") o.story
  pub bless : o.bless ≡ flag_said (first_of (codes "bless") rows)
  pub cover : SaysText (λ s. s.now) rows (codes "cover") o.cover
  pub names : SaysText (λ s. s.now) rows (codes "names") o.names
  pub strict : o.strict ≡ flag_said (first_of (codes "strict") rows)

-- what clap found says the options of a coverage report
pub record SaysCover (rows : List Row) (o : CoverOptions) : Type 0 where
  pub names : SaysText (λ s. s.now) rows (codes "names") o.names
  pub lcov : SaysText (λ s. s.now) rows (codes "lcov") o.lcov
  pub html : SaysText (λ s. s.now) rows (codes "html") o.html

-- the sections that flags name, in the order in which they are shown
abbrev pub sections_named : List Row → List Section
sections_named rows = filter (λ s. flag_said (first_of (section_name s) rows)) all_sections

-- some sections, or the header where there are none
abbrev pub or_header : List Section → List Section
or_header [] = Header ∷ []
or_header (s ∷ ss) = s ∷ ss

-- the sections that are asked for
abbrev pub sections_said : List Row → List Section
sections_said rows = or_header (sections_named rows)

-- the path of a story
abbrev pub SaysStory : List Row → Text → Type 0
SaysStory rows path = first_of (codes "STORY") rows ≡ Some path

-- the paths of stories, one at least
abbrev pub SaysStories : List Row → List Text → Type 0
SaysStories rows paths = (1 ≤ length paths) × (paths ≡ unwrap_or (all_of (codes "STORY") rows) [])

-- what clap found for a command says what is listed
abbrev pub SaysAsked : Text → List Row → Asked → Type 0
SaysAsked name rows (Sections sections) = (name ≡ codes "info") × (sections.items ≡ sections_said rows)
SaysAsked name rows (Code all) = (name ≡ codes "disasm") × (all ≡ flag_said (first_of (codes "all") rows))
SaysAsked name rows Findings = name ≡ codes "check"

-- the texts that clap found for an option or a path that may be given several times
abbrev pub AreTexts : {S : Type 0} → (S → Text) → List Row → Text → List S → Type 0
AreTexts {S} text rows name said = map text said ≡ unwrap_or (all_of name rows) []

-- where code is looked for, by `--at`, `--routine` and `--cover`
pub record SaysRoots (rows : List Row) (r : Roots) : Type 0 where
  pub at : AreTexts (λ s. s.now) rows (codes "at") r.at.items
  pub routines : AreTexts (λ s. s.now) rows (codes "routine") r.routines.items
  pub cover : SaysText (λ s. s.now) rows (codes "cover") r.cover

-- the paths, the sections and the rest that a command names
pub record IsNamed (rows : List Row) (n : NamedByCommand) : Type 0 where
  pub paths : AreTexts (λ s. s.now) rows (codes "STORY") n.paths.items
  pub sections : n.sections.items ≡ sections_said rows
  pub roots : SaysRoots rows n.roots
  pub sources : AreTexts (λ s. s.now) rows (codes "source") n.sources.items

-- the form that the flags of a command ask for: that of `--json` where both are given
abbrev pub form_said : List Row → Form
form_said rows =
    if flag_said (first_of (codes "json") rows) then Json
    else if flag_said (first_of (codes "rows") rows) then Rows
    else if flag_said (first_of (codes "graph") rows) then Graph
    else if flag_said (first_of (codes "svg") rows) then Picture
    else Lines

-- how stories are looked for and shown
abbrev pub show_said : List Row → ShowOptions
show_said rows = record {
  recursive = flag_said (first_of (codes "recursive") rows);
  form = form_said rows;
  notes = flag_said (first_of (codes "notes") rows);
  summary = flag_said (first_of (codes "summary") rows);
  callers = flag_said (first_of (codes "callers") rows);
  only = flag_said (first_of (codes "only") rows);
}

-- by which names a listing is shown, and which calls a graph shows
pub record SaysNaming (rows : List Row) (n : Naming) : Type 0 where
  pub names : SaysText (λ s. s.now) rows (codes "names") n.names
  pub sources : AreTexts (λ s. s.now) rows (codes "source") n.sources.items
  pub around : SaysText (λ s. s.now) rows (codes "around") n.around
  pub depth : SaysText (λ s. s.now) rows (codes "depth") n.depth

-- what clap found says the options of a page
pub record SaysPage (rows : List Row) (o : PageOptions) : Type 0 where
  pub title : SaysText (λ s. s.now) rows (codes "title") o.title
  pub author : SaysText (λ s. s.now) rows (codes "author") o.author
  pub blurb : SaysText (λ s. s.now) rows (codes "blurb") o.blurb
  pub cover : SaysText (λ s. s.now) rows (codes "cover") o.cover
  pub walkthrough : SaysText (λ s. s.now) rows (codes "walkthrough") o.walkthrough

-- what clap found for a command says a choice
abbrev pub Says : Text → List Row → Choice → Type 0
Says name rows (Play story options) = (name ≡ codes "play") × SaysStory rows story.now × SaysOptions rows options
Says name rows (Show stories roots naming options asked) =
    SaysStories rows (map (λ s. s.now) stories.items) × SaysRoots rows roots × SaysNaming rows naming
    × SaysAsked name rows asked × (options ≡ show_said rows)
Says name rows (Test paths options) =
    (name ≡ codes "test") × SaysStories rows (map (λ s. s.now) paths.items) × SaysTest rows options
Says name rows (Cover paths sources options) =
    (name ≡ codes "cover") × SaysStories rows (map (λ s. s.now) paths.items) × (2 ≤ length paths.items)
    × AreTexts (λ s. s.now) rows (codes "source") sources.items × SaysCover rows options
Says name rows (Unpack file out) = (name ≡ codes "unpack") × (first_of (codes "FILE") rows ≡ Some file.now)
    × (first_of (codes "OUT") rows ≡ Some out.now)
Says name rows (Page story out options) = (name ≡ codes "page") × SaysStory rows story.now
    × (first_of (codes "OUT") rows ≡ Some out.now) × SaysPage rows options

-- a command's name is none of those that list nothing
pub record IsOtherName (name : Text) : Type 0 where
  pub play : bytes_eq name (codes "play") ≡ false
  pub test : bytes_eq name (codes "test") ≡ false
  pub cover : bytes_eq name (codes "cover") ≡ false
  pub unpack : bytes_eq name (codes "unpack") ≡ false
  pub page : bytes_eq name (codes "page") ≡ false

-- the arguments ask for a choice: clap finds a command in them that says it
pub record Asks (arguments : List Text) (c : Choice) : Type 0 where
  pub name : Text
  pub rows : List Row
  pub command : subcommand_of command_line arguments ≡ Some (name, rows)
  pub says : Says name rows c

-- clap has met a command, and what it found for it says a choice
pub record MetSays (m : ArgMatches) (c : Choice) : Type 0 where
  pub name : Text
  pub rows : List Row
  pub command : subcommand_rows_of m ≡ Some (name, rows)
  pub says : Says name rows c

-- the status after arguments that are not understood, or that ask for help
abbrev pub usage_status : ErrorKind → ℕ
usage_status kind.DisplayHelp = 0
usage_status kind.DisplayVersion = 0
usage_status kind.OutOfMemory = 5
usage_status _ = 1

-- the arguments are refused: there is no memory, or clap's function of the arguments has a fault, or they ask for
-- nothing and the error is no help
abbrev pub IsRefusedWith : List Text → Error → Type 0
IsRefusedWith arguments e =
    HasKind (fault_of command_line arguments) e
    ⊎ ((1 ≤ usage_status (kind_of e)) × ((c : Choice) → Asks arguments c → ⊥))

-- the limits of a choice lie in their ranges
abbrev pub HasLimits : Choice → Type 0
HasLimits (Play story options) = AreInRange options.limits
HasLimits _ = Unit {0}
