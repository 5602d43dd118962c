-- What a debugging file says of an address of code.
use Rattle.std.specs.Prelude.{ℕ, ◌+◌, ◌&&◌, ◌==◌, Bool, List, Option, None, Some, option_map, nat_lt, nat_le, take}
use Rattle.std.specs.Prelude.{drop, reverse}
use Rattle.std.specs.List.{find}
use Rattle.std.specs.Str.{bytes_eq}
use Rattle.zk_names.specs.declared.names.Names.{Names}
use Rattle.zk_names.specs.declared.names.Routine.{Routine}
use Rattle.zk_names.specs.declared.names.Point.{Point}
use Rattle.zk_names.specs.declared.names.Local.{Local}
use Rattle.zk_names.specs.declared.names.Place.{Place}
use Rattle.zk_names.specs.declared.names.Source.{Source}

-- an address lies in the range of a routine
abbrev pub is_in : Routine → ℕ → Bool
is_in r a = nat_le r.address a && nat_lt a (r.address + r.length)

-- the routine whose range has an address
abbrev pub routine_at : List Routine → ℕ → Option Routine
routine_at routines a = find (λ r. is_in r a) routines

-- the routine that begins at an address, and the first of a name
abbrev pub routine_from : List Routine → ℕ → Option Routine
routine_from routines a = find (λ r. r.address == a) routines

abbrev pub routine_named : List Routine → List ℕ → Option Routine
routine_named routines name = find (λ r. bytes_eq r.name.now name) routines

-- the sequence points and the local variables of a routine
abbrev pub points_of : Names → Routine → List Point
points_of n r = take r.points (drop r.first_point n.points.items)

abbrev pub locals_of : Names → Routine → List Local
locals_of n r = take r.locals (drop r.first_local n.locals.items)

-- the last sequence point at or before an address
abbrev pub last_before : ℕ → List Point → Option Point
last_before a points = find (λ p. nat_le p.address a) (reverse points)

-- the place in the source of an address: that of the last sequence point at or before it, among those of its routine
abbrev pub place_in : Names → ℕ → Option Routine → Option Place
place_in n a None = None
place_in n a (Some r) = option_map (λ p. p.place) (last_before a (points_of n r))

abbrev pub place_at : Names → ℕ → Option Place
place_at n a = place_in n a (routine_at n.routines.items a)

-- a sequence point is on a line of a file
abbrev pub is_on : ℕ → ℕ → Point → Bool
is_on file line p = (p.place.file == file) && (p.place.line == line)

-- the address of the first sequence point on a line of a file
abbrev pub address_on : List Point → ℕ → ℕ → Option ℕ
address_on points file line = option_map (λ p. p.address) (find (is_on file line) points)

-- the file of a number
abbrev pub source_of : List Source → ℕ → Option Source
source_of sources index = find (λ s. s.index == index) sources
