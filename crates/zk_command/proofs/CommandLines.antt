-- What clap finds in the arguments of the command line.
use Rattle.std.proofs.Common.{◌≡◌, ◌∙◌, ◌<◌, ◌≤◌, ◌⊎◌, inl, inr, ℕ, zero, suc, List, [], ◌∷◌, ◌++◌, length, take}
use Rattle.std.proofs.Common.{append-nil, cond, filter, get_or, ◌==◌}
use Rattle.std.proofs.lemmas.Bool.Decides.{nat_tests}
use Rattle.std.proofs.lemmas.List.{length-map}
use Rattle.std.proofs.Common.{Option, Some, None, IfNone, IfSome, codes, refl, sym, ap, arith, subst, Bool, true, false}
use Rattle.std.specs.Prelude.{SomeIff, IsSomeAnd, map, option_map, unwrap_or}
use Rattle.std.specs.Str.{bytes_eq}
use Rattle.std.proofs.lemmas.Slice.Eq.{bytes_eq-Decides}
use Rattle.clap.specs.Words.{App, HasMatchesOf, Row, Rule, Text, all_of, first_of, is_simple, kind_of}
use Rattle.clap.specs.Words.{is_simple_and_free}
use Rattle.clap.specs.Words.{subcommand_name_of, subcommand_of, with_rule, with_subcommand}
use Rattle.clap.proofs.OnLiterals.{clap_on_literals}
use Rattle.clap.specs.declared.ArgMatches.{ArgMatches}
use Rattle.clap.specs.declared.Error.{Error}
use Rattle.clap.specs.declared.error.ErrorKind.TheVariants.{OutOfMemory}
use Rattle.zk_command.specs.declared.settings.Amount.{Amount}
use Rattle.zk_command.specs.declared.settings.PlayOptions.{PlayOptions}
use Rattle.zk_command.specs.CommandLine.{Asks, IsAmount, IsNumberIn, IsOtherName, IsRefusedWith, MaySayAmount, MetSays}
use Rattle.zk_command.specs.CommandLine.{Says, SaysAsked, SaysOptions, SaysNumber, SaysStory, command_line, flag_said}
use Rattle.zk_command.specs.CommandLine.{number_in, or_header, table_command, usage_status, with_rules}
use Rattle.zk_command.specs.CommandLine.{with_tables}
use Rattle.zk_inspect.specs.declared.section.Section.{Section}
use Rattle.zk_inspect.specs.declared.section.Section.TheVariants.{Header}
use Rattle.zk_command.specs.declared.choice.Choice.{Choice}
use Rattle.zk_command.specs.declared.options.CommandTable.{CommandTable}
use Rattle.zk_command.specs.declared.choice.Choice.TheVariants.{Play, Show, Test, Cover, Unpack, Page}
use Rattle.zk_command.specs.declared.settings.Asked.{Asked}
use Rattle.zk_command.specs.declared.settings.Asked.TheVariants.{Sections, Code, Findings}

-- the command line is simple in clap's sense
pub command_line_is_simple : is_simple command_line ≡ true
unfolding clap_on_literals
command_line_is_simple = refl

-- no argument of it has a rule on another
pub command_line_is_free : is_simple_and_free command_line ≡ true
unfolding clap_on_literals
command_line_is_free = refl

-- one rule more
pub rules_more : {O : Type 0} (rule : O → Rule) (a : App) (os : List O) (i : ℕ) (d : O) → i < length os
    → with_rules a (map rule (take (suc i) os)) ≡ with_rule (with_rules a (map rule (take i os))) (rule (get_or os i d))
rules_more {O} rule a [] i d h = absurd (omega arith)
rules_more {O} rule a (o ∷ os) zero d h = refl
rules_more {O} rule a (o ∷ os) (suc i) d h = rules_more rule (with_rule a (rule o)) os i d (omega arith)

-- one element more that is looked at
pub filter_more : {X : Type 0} (test : X → Bool) (xs : List X) (i : ℕ) (d : X) → i < length xs
    → filter test (take (suc i) xs)
    ≡ filter test (take i xs) ++ cond (test (get_or xs i d)) (get_or xs i d ∷ []) []
filter_more {X} test [] i d h = absurd (omega arith)
filter_more {X} test (x ∷ xs) zero d h = refl
filter_more {X} test (x ∷ xs) (suc i) d h = kept (test x) _ _ _ (filter_more test xs i d (omega arith))
  where
    kept : (b : Bool) (s t u : List X) → s ≡ t ++ u → cond b (x ∷ s) s ≡ cond b (x ∷ t) t ++ u
    kept true s t u k = ap (λ (ys : List X). x ∷ ys) k
    kept false s t u k = k

-- one that is kept, and one that is not
pub kept_more : {X : Type 0} (test : X → Bool) (xs : List X) (i : ℕ) (d : X) (kept next : List X) → i < length xs
    → kept ≡ filter test (take i xs) → next ≡ kept ++ get_or xs i d ∷ [] → true ≡ test (get_or xs i d)
    → next ≡ filter test (take (suc i) xs)
kept_more {X} test xs i d kept next lt h e t =
    e ∙ ap (λ (ys : List X). ys ++ get_or xs i d ∷ []) h ∙ sym (filter_more test xs i d lt
    ∙ ap (λ (b : Bool). filter test (take i xs) ++ cond b (get_or xs i d ∷ []) []) (sym t))

pub kept_less : {X : Type 0} (test : X → Bool) (xs : List X) (i : ℕ) (d : X) (kept next : List X) → i < length xs
    → kept ≡ filter test (take i xs) → next ≡ kept → false ≡ test (get_or xs i d)
    → next ≡ filter test (take (suc i) xs)
kept_less {X} test xs i d kept next lt h e t = e ∙ h ∙ sym (filter_more test xs i d lt
    ∙ ap (λ (b : Bool). filter test (take i xs) ++ cond b (get_or xs i d ∷ []) []) (sym t) ∙ append-nil _)

-- the header alone where no section is named, and else those that are
pub header_said : (xs named next : List Section) → xs ≡ named → (length xs == 0) ≡ true
    → next ≡ xs ++ Header ∷ [] → next ≡ or_header named
header_said [] named next is e h = h ∙ ap or_header is
header_said (x ∷ xs) named next is e h =
    let some : (suc (length xs) == 0) ≡ false = grind (arith, nat_tests) in
    let both : true ≡ false = sym e ∙ some in
    absurd cc

pub others_said : (xs named next : List Section) → xs ≡ named → (length xs == 0) ≡ false → next ≡ xs
    → next ≡ or_header named
others_said [] named next is e h = let both : true ≡ false = e in absurd cc
others_said (x ∷ xs) named next is e h = h ∙ ap or_header is

-- one command more
pub tables_more : (a : App) (ts : List CommandTable) (i : ℕ) (d : CommandTable) → i < length ts
    → with_tables a (take (suc i) ts) ≡ with_subcommand (with_tables a (take i ts)) (table_command (get_or ts i d)).top
tables_more a [] i d h = absurd (omega arith)
tables_more a (t ∷ ts) zero d h = refl
tables_more a (t ∷ ts) (suc i) d h = tables_more (with_subcommand a (table_command t).top) ts i d (omega arith)

-- a number that was read of an option's text
pub number_said : (rows : List Row) (option : Text) (least most : ℕ) (argument : Text) (o : Option ℕ)
    → first_of option rows ≡ Some argument
    → SomeIff o (IsNumberIn least most argument) (number_in argument)
    → IfSome o (λ n. SaysNumber rows option least most n)
number_said rows option least most argument None e h = tt
number_said rows option least most argument (Some n) e h =
    subst (λ (o : Option Text). IsSomeAnd o (λ w. IsNumberIn least most w × (number_in w ≡ n))) (sym e) (h.0, sym h.1)

firsts : {X Y Z : Type 0} (f : X → Y × Z) (o : Option X) → option_map (λ p. p.0) (option_map f o) ≡ option_map
    (λ x. (f x).0) o
firsts f None = refl
firsts f (Some x) = refl

-- what clap has met in the arguments, they ask for
pub met_asks : (m : ArgMatches) (a : App) (arguments : List Text) → a ≡ command_line → HasMatchesOf a arguments m
    → (c : Choice) → MetSays m c → Asks arguments c
met_asks m a arguments line_is has c h = record {
  name = h.name;
  rows = h.rows;
  command = ap (λ (b : App). subcommand_of b arguments) (sym line_is)
      ∙ sym (has (ap is_simple line_is ∙ command_line_is_simple)).1 ∙ h.command;
  says = h.says;
}

-- and where that says nothing, the arguments ask for nothing
unasked : (m : ArgMatches) (a : App) (arguments : List Text) → a ≡ command_line → HasMatchesOf a arguments m
    → ((c : Choice) → MetSays m c → ⊥) → (c : Choice) → Asks arguments c → ⊥
unasked m a arguments line_is has none c h = none c (record {
  name = h.name;
  rows = h.rows;
  command = (has (ap is_simple line_is ∙ command_line_is_simple)).1 ∙ ap (λ (b : App). subcommand_of b arguments)
      line_is ∙ h.command;
  says = h.says;
})

-- without memory, or where that says nothing, they are refused
pub refused_by : (m : ArgMatches) (a : App) (arguments : List Text) → a ≡ command_line
    → HasMatchesOf a arguments m → (e : Error)
    → (kind_of e ≡ OutOfMemory) ⊎ ((1 ≤ usage_status (kind_of e)) × ((c : Choice) → MetSays m c → ⊥))
    → IsRefusedWith arguments e
refused_by m a arguments line_is has e (inl h) = inl (inl h)
refused_by m a arguments line_is has e (inr h) = inr (h.0, unasked m a arguments line_is has h.1)

-- where clap has met no command, nothing is said
pub without_command : (m : ArgMatches) → subcommand_name_of m ≡ None → (c : Choice) → MetSays m c → ⊥
without_command m none c h =
    let some : None ≡ Some h.name = sym none ∙ sym (firsts _ _) ∙ ap (option_map (λ (p : Text × List Row). p.0))
    h.command in
    absurd cc

-- an option without a text says no number
pub none_said : (rows : List Row) (option : Text) (least most : ℕ) → first_of option rows ≡ None → (n : ℕ)
    → SaysNumber rows option least most n → ⊥
none_said rows option least most e n h =
    subst (λ (o : Option Text). IsSomeAnd o (λ w. IsNumberIn least most w × (number_in w ≡ n))) e h

-- neither does one whose text is no number in the range
pub number_not_said : (rows : List Row) (option : Text) (least most : ℕ) (argument : Text) (o : Option ℕ)
    → first_of option rows ≡ Some argument
    → SomeIff o (IsNumberIn least most argument) (number_in argument)
    → IfNone o ((n : ℕ) → SaysNumber rows option least most n → ⊥)
number_not_said rows option least most argument None e h =
    λ n said. h (subst (λ (o : Option Text). IsSomeAnd o (λ w. IsNumberIn least most w × (number_in w ≡ n))) e said).0
number_not_said rows option least most argument (Some n) e h = tt

-- an option's text says a number, or one that the program finds
pub amount_said : (rows : List Row) (option : Text) (least most : ℕ) (word : Option Text) (argument : Text)
    (a : Amount) → first_of option rows ≡ Some argument
    → IsAmount least most word argument a → MaySayAmount rows option least most word (Some a)
amount_said rows option least most word argument a e h =
    subst (λ (o : Option Text). IsSomeAnd o (λ w. IsAmount least most word w a)) (sym e) h

-- one whose text says neither
pub no_amount_said : (rows : List Row) (option : Text) (least most : ℕ) (word : Option Text) (argument : Text)
    → first_of option rows ≡ Some argument
    → ((a : Amount) → IsAmount least most word argument a → ⊥) → (a : Option Amount)
    → MaySayAmount rows option least most word a → ⊥
no_amount_said rows option least most word argument e none None h =
    let both : None ≡ Some argument = sym h ∙ e in absurd cc
no_amount_said rows option least most word argument e none (Some a) h =
    none a (subst (λ (o : Option Text). IsSomeAnd o (λ w. IsAmount least most word w a)) e h)

-- an option that is left out says no number
pub left_out : (rows : List Row) (option : Text) (least most : ℕ) (word : Option Text)
    → first_of option rows ≡ None → (a : Amount) → MaySayAmount rows option least most word (Some a) → ⊥
left_out rows option least most word e a h =
    subst (λ (o : Option Text). IsSomeAnd o (λ w. IsAmount least most word w a)) e h

-- a flag by its text
pub flag_by : (rows : List Row) (name argument : Text) (b : Bool) → first_of name rows ≡ Some argument
    → b ≡ bytes_eq argument (codes "true") → b ≡ flag_said (first_of name rows)
flag_by rows name argument b e is = is ∙ sym (ap flag_said e)

pub no_flag : (rows : List Row) (name : Text) → first_of name rows ≡ None → false ≡ flag_said (first_of name rows)
no_flag rows name e = sym (ap flag_said e)

-- no path is said
pub no_path : (rows : List Row) → first_of (codes "STORY") rows ≡ None → (path : List ℕ) → SaysStory rows path → ⊥
no_path rows none path h = let both : None ≡ Some path = sym none ∙ h in absurd cc

-- names are told apart by their bytes
pub same_name : (name known : Text) → bytes_eq name known ≡ true → name ≡ known
same_name name known test = let d = bytes_eq-Decides name known in d.0 test

other_name : (name known : Text) → bytes_eq name known ≡ false → name ≡ known → ⊥
other_name name known test e =
    let d = bytes_eq-Decides name known in let both : false ≡ true = sym test ∙ d.1 e in absurd cc

-- `play`, `test`, `cover`, `unpack` and `page` list nothing
no_asked : (name : Text) (rows : List Row) (asked : Asked) → bytes_eq name (codes "info") ≡ false
    → bytes_eq name (codes "disasm") ≡ false → bytes_eq name (codes "check") ≡ false → SaysAsked name rows asked → ⊥
no_asked name rows (Sections sections) i d k h = other_name name (codes "info") i h.0
no_asked name rows (Code all) i d k h = other_name name (codes "disasm") d h.0
no_asked name rows Findings i d k h = other_name name (codes "check") k h

-- without a path or options `play` asks for nothing
pub no_play_said : (rows : List Row) → ((path : List ℕ) (o : PlayOptions) → SaysStory rows path
    → SaysOptions rows o → ⊥) → (c : Choice) → Says (codes "play") rows c → ⊥
no_play_said rows none (Play story options) h = none story.now options h.1 h.2
no_play_said rows none (Show stories roots naming options asked) h =
    no_asked (codes "play") rows asked refl refl refl h.3
no_play_said rows none (Test paths options) h = other_name (codes "play") (codes "test") refl h.0
no_play_said rows none (Cover told sources options) h = other_name (codes "play") (codes "cover") refl h.0
no_play_said rows none (Unpack file out) h = other_name (codes "play") (codes "unpack") refl h.0
no_play_said rows none (Page story out options) h = other_name (codes "play") (codes "page") refl h.0

-- without the paths of two files `unpack` asks for nothing
pub no_unpack_said : (rows : List Row) → ((file out : List ℕ) → first_of (codes "FILE") rows ≡ Some file
    → first_of (codes "OUT") rows ≡ Some out → ⊥) → (c : Choice) → Says (codes "unpack") rows c → ⊥
no_unpack_said rows none (Play story options) h = other_name (codes "unpack") (codes "play") refl h.0
no_unpack_said rows none (Show stories roots naming options asked) h =
    no_asked (codes "unpack") rows asked refl refl refl h.3
no_unpack_said rows none (Test paths options) h = other_name (codes "unpack") (codes "test") refl h.0
no_unpack_said rows none (Cover told sources options) h = other_name (codes "unpack") (codes "cover") refl h.0
no_unpack_said rows none (Unpack file out) h = none file.now out.now h.1 h.2
no_unpack_said rows none (Page story out options) h = other_name (codes "unpack") (codes "page") refl h.0

-- without the paths of a story and of a page `page` asks for nothing
pub no_page_said : (rows : List Row) → ((story out : List ℕ) → SaysStory rows story
    → first_of (codes "OUT") rows ≡ Some out → ⊥) → (c : Choice) → Says (codes "page") rows c → ⊥
no_page_said rows none (Play story options) h = other_name (codes "page") (codes "play") refl h.0
no_page_said rows none (Show stories roots naming options asked) h =
    no_asked (codes "page") rows asked refl refl refl h.3
no_page_said rows none (Test paths options) h = other_name (codes "page") (codes "test") refl h.0
no_page_said rows none (Cover told sources options) h = other_name (codes "page") (codes "cover") refl h.0
no_page_said rows none (Unpack file out) h = other_name (codes "page") (codes "unpack") refl h.0
no_page_said rows none (Page story out options) h = none story.now out.now h.1 h.2

-- there are no paths
no_paths : (rows : List Row) (paths told : List Text) → paths ≡ unwrap_or (all_of (codes "STORY") rows) []
    → length paths ≡ 0 → 1 ≤ length told → told ≡ unwrap_or (all_of (codes "STORY") rows) [] → ⊥
no_paths rows paths told is none some same =
    let both : length told ≡ 0 = ap length (same ∙ sym is) ∙ none in
    let one : 1 ≤ 0 = rw both at some in
    absurd (omega arith)

-- without a path `test` asks for nothing
pub no_test_said : (rows : List Row) (paths : List Text) → paths ≡ unwrap_or (all_of (codes "STORY") rows) []
    → length paths ≡ 0 → (c : Choice) → Says (codes "test") rows c → ⊥
no_test_said rows paths is none (Play story options) h = other_name (codes "test") (codes "play") refl h.0
no_test_said rows paths is none (Show stories roots naming options asked) h =
    no_asked (codes "test") rows asked refl refl refl h.3
no_test_said rows paths is none (Test told options) h = no_paths rows paths _ is none h.1.0 h.1.1
no_test_said rows paths is none (Cover told sources options) h = other_name (codes "test") (codes "cover") refl h.0
no_test_said rows paths is none (Unpack file out) h = other_name (codes "test") (codes "unpack") refl h.0
no_test_said rows paths is none (Page story out options) h = other_name (codes "test") (codes "page") refl h.0

-- without two paths `cover` asks for nothing
pub no_cover_said : (rows : List Row) (paths : List Text) → paths ≡ unwrap_or (all_of (codes "STORY") rows) []
    → length paths < 2 → (c : Choice) → Says (codes "cover") rows c → ⊥
no_cover_said rows paths is few (Play story options) h = other_name (codes "cover") (codes "play") refl h.0
no_cover_said rows paths is few (Show stories roots naming options asked) h =
    no_asked (codes "cover") rows asked refl refl refl h.3
no_cover_said rows paths is few (Test told options) h = other_name (codes "cover") (codes "test") refl h.0
no_cover_said rows paths is few (Cover told sources options) h =
    let same : length (map (λ s. s.now) told.items) ≡ length paths = ap length (h.1.1 ∙ sym is) in
    absurd (omega (arith, same, few, length-map told.items (λ s. s.now), h.2))
no_cover_said rows paths is few (Unpack file out) h = other_name (codes "cover") (codes "unpack") refl h.0
no_cover_said rows paths is few (Page story out options) h = other_name (codes "cover") (codes "page") refl h.0

-- without stories, or by a name of no listing, nothing is listed
pub no_stories : (name : Text) (rows : List Row) (paths : List Text) → IsOtherName name
    → paths ≡ unwrap_or (all_of (codes "STORY") rows) [] → length paths ≡ 0 → (c : Choice) → Says name rows c → ⊥
no_stories name rows paths other is none (Play story options) h = other_name name (codes "play") other.play h.0
no_stories name rows paths other is none (Show stories roots naming options asked) h =
    no_paths rows paths _ is none h.0.0 h.0.1
no_stories name rows paths other is none (Test told options) h = other_name name (codes "test") other.test h.0
no_stories name rows paths other is none (Cover told sources options) h =
    other_name name (codes "cover") other.cover h.0
no_stories name rows paths other is none (Unpack file out) h = other_name name (codes "unpack") other.unpack h.0
no_stories name rows paths other is none (Page story out options) h = other_name name (codes "page") other.page h.0

pub no_command : (name : Text) (rows : List Row) → IsOtherName name
    → ((a : Asked) → SaysAsked name rows a → ⊥) → (c : Choice) → Says name rows c → ⊥
no_command name rows other none (Play story options) h = other_name name (codes "play") other.play h.0
no_command name rows other none (Show stories roots naming options asked) h = none asked h.3
no_command name rows other none (Test told options) h = other_name name (codes "test") other.test h.0
no_command name rows other none (Cover told sources options) h = other_name name (codes "cover") other.cover h.0
no_command name rows other none (Unpack file out) h = other_name name (codes "unpack") other.unpack h.0
no_command name rows other none (Page story out options) h = other_name name (codes "page") other.page h.0

pub no_asked_said : (name : Text) (rows : List Row) → bytes_eq name (codes "info") ≡ false
    → bytes_eq name (codes "disasm") ≡ false → bytes_eq name (codes "check") ≡ false → (a : Asked)
    → SaysAsked name rows a → ⊥
no_asked_said name rows i d k a h = no_asked name rows a i d k h
