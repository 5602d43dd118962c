-- The words of a text (Standard, section 13.6.1).
use Rattle.std.specs.Prelude.{◌≡◌, ◌≤◌, ◌<◌, ℕ, ◌+◌, Bool, true, false, ◌&&◌, not, List, [], ◌∷◌, length, get_or}
use Rattle.std.specs.Prelude.{Option, Some, None, ◌==◌, nat_eq, ◌⊎◌, ◌↔◌, if◌then◌else◌}
use Rattle.std.specs.List.{list_any, cons_option, AllByRecursion}
use Rattle.zk_tables.specs.declared.tokens.Token.{Token}

-- the ZSCII code of a space
abbrev pub space : ℕ
space = 32

-- a code is a separator, and no space, which divides words in any case
unfoldable pub is_separator : List ℕ → ℕ → Bool
is_separator separators c = not (c == space) && list_any (nat_eq c) separators

-- a code is neither a space nor a separator
unfoldable pub is_letter : List ℕ → ℕ → Bool
is_letter separators c = not (c == space) && not (list_any (nat_eq c) separators)

-- the code at a place of a text; around it there are spaces
abbrev pub code_at : List ℕ → ℕ → ℕ
code_at text i = get_or text i space

-- a run of letters that is not part of a longer one
pub record IsRun (separators text : List ℕ) (t : Token) : Type 0 where
  pub some : 1 ≤ t.length
  pub letters : (i : ℕ) → t.position ≤ i → i < t.position + t.length → is_letter separators (code_at text i) ≡ true
  pub begins : (i : ℕ) → t.position ≡ i + 1 → is_letter separators (code_at text i) ≡ false
  pub ends : is_letter separators (code_at text (t.position + t.length)) ≡ false

-- a separator
pub record IsAlone (separators text : List ℕ) (t : Token) : Type 0 where
  pub one : t.length ≡ 1
  pub separator : is_separator separators (code_at text t.position) ≡ true

-- a word of a text: a run of letters, or a separator
abbrev pub IsToken : List ℕ → List ℕ → Token → Type 0
IsToken separators text t = IsRun separators text t ⊎ IsAlone separators text t

-- each begins before those after it
unfoldable pub Rises : List Token → Type 0
Rises [] = Unit {0}
Rises (t ∷ ts) = AllByRecursion (λ u. t.position < u.position) ts × Rises ts

-- a token is in a list
unfoldable pub IsIn : Token → List Token → Type 0
IsIn t [] = ⊥
IsIn t (u ∷ us) = (t ≡ u) ⊎ IsIn t us

-- all words of a text and nothing else, by rising position
pub record AreTokens (separators text : List ℕ) (ts : List Token) : Type 0 where
  pub tokens : (t : Token) → IsIn t ts ↔ IsToken separators text t
  pub rising : Rises ts

-- ---- the same, from the front of the text on

-- how many letters stand at the front
unfoldable pub run : List ℕ → List ℕ → ℕ
run separators [] = 0
run separators (c ∷ cs) = if is_letter separators c then run separators cs + 1 else 0

abbrev pub token : ℕ → ℕ → Token
token position length = record { position = position; length = length }

-- the word that begins at the front of what is left of a text, where the code before was a letter or not
unfoldable pub token_here : List ℕ → ℕ → Bool → List ℕ → Option Token
token_here separators p inside [] = None
token_here separators p inside (c ∷ cs) =
    if is_letter separators c
    then (if inside then None else Some (token p (run separators (c ∷ cs))))
    else if is_separator separators c then Some (token p 1) else None

-- the words of what is left of a text, from a position on
unfoldable pub tokens_from : List ℕ → ℕ → Bool → List ℕ → List Token
tokens_from separators p inside [] = []
tokens_from separators p inside (c ∷ cs) =
    cons_option (token_here separators p inside (c ∷ cs)) (tokens_from separators (p + 1) (is_letter separators c) cs)

-- the words of a text
unfoldable pub tokens : List ℕ → List ℕ → List Token
tokens separators text = tokens_from separators 0 false text

-- ---- laws

-- what is computed are the words of the text
abbrev pub TokensAreWords : Type 0
TokensAreWords = (separators text : List ℕ) → AreTokens separators text (tokens separators text)

-- a text has one list of words
abbrev pub TokensAreDetermined : Type 0
TokensAreDetermined = (separators text : List ℕ) (ts us : List Token) → AreTokens separators text ts
    → AreTokens separators text us → ts ≡ us
