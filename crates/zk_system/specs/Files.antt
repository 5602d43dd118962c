-- What stands at a path, and what is read of it.
use Rattle.std.specs.Prelude.{ℕ, ◌==◌, ◌&&◌, ◌||◌, Bool, not, List, codes, length, nat_le, Option, Some, None}
use Rattle.std.specs.Prelude.{Result, Ok, Err, if◌then◌else◌}
use Rattle.std.specs.List.{list_any}
use Rattle.std.specs.Str.{bytes_eq}
use Rattle.std.specs.Fs.{IsDir, IsFile, file_type}
use Rattle.std.specs.declared.fs.attrs.Metadata.{Metadata}
use Rattle.std.specs.declared.io.Error.{Error}
use Rattle.zk_system.specs.declared.files.Kind.{Kind}
use Rattle.zk_system.specs.declared.files.Kind.TheVariants.{Folder, File, Other, Unknown}

-- what stands at a path, by what the system tells of it
abbrev pub IsKind : Result Metadata Error → Kind → Type 0
IsKind (Ok found) Folder = IsDir (file_type found)
IsKind (Ok found) File = IsFile (file_type found)
IsKind (Ok found) Other = (IsDir (file_type found) → ⊥) × (IsFile (file_type found) → ⊥)
IsKind (Err error) Unknown = Unit {0}
IsKind found kind = ⊥

-- the bytes of a file, where there are at most so many
abbrev pub within : ℕ → List ℕ → Option (List ℕ)
within most file = if nat_le (length file) most then Some file else None

-- a name is that of a folder, or none
abbrev pub is_folder_name : List ℕ → Bool
is_folder_name name = (length name == 0) || (bytes_eq name (codes ".") || bytes_eq name (codes ".."))

-- a text names a file in a folder: it has no slash (47) and no zero byte, and is no name of a folder
abbrev pub names_file : List ℕ → Bool
names_file name =
    not (is_folder_name name) && (not (list_any (λ b. b == 47) name) && not (list_any (λ b. b == 0) name))

-- what the paths of a list end with: zero bytes where the list has one, and else new lines
abbrev pub byte_between : List ℕ → ℕ
byte_between list = if list_any (λ b. b == 0) list then 0 else 10
