-- Worked examples of the story in a Blorb file, by hand.
use Rattle.std.specs.Prelude.{◌≡◌, ℕ, List, [], ◌∷◌, ◌++◌, replicate, take, codes, Ok, Err}
use Rattle.zk_blorb.specs.Blorb.{number_of, story_of}
use Rattle.zk_blorb.specs.Looks.{looks_of}
use Rattle.zk_blorb.specs.declared.looks.Looks.TheVariants.{Unknown, Blorb, Glulx, Gzip, Zip, Text}
use Rattle.zk_blorb.specs.declared.story.BlorbError.TheVariants.{NoBlorb, CutOff, NoIndex, NoStory, NotZcode}

-- the number 1, 2, 3, 4, and the greatest
abbrev pub NumbersAreRead : Type 0
NumbersAreRead =
    (number_of (1 ∷ 2 ∷ 3 ∷ 4 ∷ []) ≡ 0x0102_0304)
    × (number_of (255 ∷ 255 ∷ 255 ∷ 255 ∷ []) ≡ 0xffff_ffff)

-- four bytes that spell a number below 256
abbrev pub small : ℕ → List ℕ
small n = 0 ∷ 0 ∷ 0 ∷ n ∷ []

-- a row of the index: usage, number and start
abbrev pub row : List ℕ → ℕ → ℕ → List ℕ
row usage number start = usage ++ small number ++ small start

-- a chunk of a name, where its length is said to be so much
abbrev pub chunk : List ℕ → ℕ → List ℕ → List ℕ
chunk kind size content = kind ++ small size ++ content

-- a file with a form that is said to have so many bytes after its length
abbrev pub file_of : ℕ → List ℕ → List ℕ
file_of size chunks = chunk (codes "FORM") size (codes "IFRS" ++ chunks)

-- an index of a picture, number 1, at 48, and of an executable, number 0, at 60
abbrev pub two_rows : List ℕ
two_rows = chunk (codes "RIdx") 28 (small 2 ++ row (codes "Pict") 1 48 ++ row (codes "Exec") 0 60)

-- a picture of three bytes, and the byte that makes that even
abbrev pub picture : List ℕ
picture = chunk (codes "PNG ") 3 (9 ∷ 9 ∷ 9 ∷ 0 ∷ [])

-- a story of three bytes
abbrev pub story : List ℕ
story = chunk (codes "ZCOD") 3 (5 ∷ 6 ∷ 7 ∷ [])

-- the executable is found behind a picture; a byte that makes its length even may be there or not, the number of a
-- row does not count, nor what stands after the form
abbrev pub StoriesAreFound : Type 0
StoriesAreFound =
    (story_of (file_of 64 (two_rows ++ picture ++ story ++ 0 ∷ [])) ≡ Ok (5 ∷ 6 ∷ 7 ∷ []))
    × (story_of (file_of 63 (two_rows ++ picture ++ story)) ≡ Ok (5 ∷ 6 ∷ 7 ∷ []))
    × (story_of (file_of 63 (two_rows ++ picture ++ story ++ 1 ∷ 2 ∷ 3 ∷ [])) ≡ Ok (5 ∷ 6 ∷ 7 ∷ []))
    × (story_of
    (file_of 51 (chunk (codes "RIdx") 28 (small 2 ++ row (codes "Exec") 1 48 ++ row (codes "Exec") 0 12)
    ++ story)) ≡ Ok (5 ∷ 6 ∷ 7 ∷ []))

-- each refusal, by a file that is wrong in one place alone
abbrev pub FilesAreRefused : Type 0
FilesAreRefused =
    (story_of (take 11 (file_of 63 (two_rows ++ picture ++ story))) ≡ Err NoBlorb)
    × (story_of (chunk (codes "FORM") 63 (codes "IFZS" ++ two_rows ++ picture ++ story)) ≡ Err NoBlorb)
    × (story_of (chunk (codes "RIFF") 63 (codes "IFRS" ++ two_rows ++ picture ++ story)) ≡ Err NoBlorb)
    × (story_of (file_of 64 (two_rows ++ picture ++ story)) ≡ Err CutOff)
    × (story_of (file_of 11 (two_rows ++ picture ++ story)) ≡ Err CutOff)
    × (story_of (file_of 39 (two_rows ++ picture ++ story)) ≡ Err CutOff)
    × (story_of
    (file_of 63 (chunk (codes "RIdx") 27 (small 2 ++ row (codes "Pict") 1 48 ++ row (codes "Exec") 0 60)
    ++ picture ++ story)) ≡ Err NoIndex)
    × (story_of
    (file_of 63 (chunk (codes "RIdx") 28 (small 1 ++ row (codes "Pict") 1 48 ++ row (codes "Exec") 0 60)
    ++ picture ++ story)) ≡ Err NoIndex)
    × (story_of (file_of 23 (picture ++ story)) ≡ Err NoIndex)
    × (story_of (file_of 12 (chunk (codes "RIdx") 0 [])) ≡ Err NoIndex)
    × (story_of
    (file_of 63 (chunk (codes "RIdx") 28 (small 2 ++ row (codes "Pict") 1 48 ++ row (codes "Snd ") 0 60)
    ++ picture ++ story)) ≡ Err NoStory)
    × (story_of (file_of 16 (chunk (codes "RIdx") 4 (small 0))) ≡ Err NoStory)
    × (story_of (file_of 62 (two_rows ++ picture ++ story)) ≡ Err CutOff)
    × (story_of (file_of 52 (two_rows ++ picture ++ story)) ≡ Err CutOff)
    × (story_of (file_of 63 (two_rows ++ picture ++ chunk (codes "ZCOD") 4 (5 ∷ 6 ∷ 7 ∷ []))) ≡ Err CutOff)
    × (story_of (file_of 63 (two_rows ++ picture ++ chunk (codes "GLUL") 3 (5 ∷ 6 ∷ 7 ∷ []))) ≡ Err NotZcode)

-- a file is told by its first bytes, and another form is none of resources
abbrev pub KindsAreTold : Type 0
KindsAreTold =
    (looks_of (codes "FORM" ++ small 4 ++ codes "IFRS") ≡ Blorb)
    × (looks_of (codes "FORM" ++ small 4 ++ codes "AIFF") ≡ Unknown)
    × (looks_of (codes "Glul" ++ small 3) ≡ Glulx)
    × (looks_of (0x1f ∷ 0x8b ∷ 8 ∷ []) ≡ Gzip)
    × (looks_of (0x1f ∷ []) ≡ Unknown)
    × (looks_of (codes "PK" ++ 3 ∷ 4 ∷ 20 ∷ []) ≡ Zip)
    × (looks_of (codes "PK") ≡ Text)

-- a text has at least a byte, and none of its first 64 is another control character than a tab or an end of a line
abbrev pub TextsAreTold : Type 0
TextsAreTold =
    (looks_of [] ≡ Unknown)
    × (looks_of (9 ∷ 13 ∷ 10 ∷ 32 ∷ 126 ∷ 128 ∷ 255 ∷ []) ≡ Text)
    × (looks_of (65 ∷ 127 ∷ []) ≡ Unknown)
    × (looks_of (65 ∷ 31 ∷ []) ≡ Unknown)
    × (looks_of (replicate 64 65 ++ 0 ∷ []) ≡ Text)
    × (looks_of (replicate 63 65 ++ 0 ∷ []) ≡ Unknown)
