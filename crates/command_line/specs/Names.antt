-- Which names the files of a command may have, so that nothing is destroyed by what is written.
use Rattle.std.specs.Prelude.{◌≡◌, ◌≤◌, ◌-◌, Bool, false, ◌||◌, List, [], ◌∷◌, ◌++◌, Option, None, Some, codes, drop, length, map, option_map, take}
use Rattle.std.specs.List.{list_any}
use Rattle.std.specs.Option.{option_map_or}
use Rattle.std.specs.Str.{bytes_eq}
use Rattle.std.specs.Char.{to_ascii_lowercase}
use Rattle.clap.specs.Words.{Text}
use Rattle.command_line.specs.declared.request.Command.{Command}
use Rattle.command_line.specs.Files.{files_of, outputs_of}

-- any number of texts may go there, as nothing is kept there that they could destroy
abbrev pub is_device : Text → Bool
is_device name = bytes_eq name (codes "/dev/null") || (bytes_eq name (codes "/dev/stdout") || bytes_eq name (codes "/dev/stderr"))

-- the files of Even's and of Odd's evidence
abbrev pub even_name : (path : Text) → Text
even_name path = path ++ codes ".even"

abbrev pub odd_name : (path : Text) → Text
odd_name path = path ++ codes ".odd"

-- the file has this name, if it is asked for
abbrev pub has_name : Text → Option Text → Bool
has_name name file = option_map_or (λ text. bytes_eq text name) file false

-- none of the others has the file's name, if it is asked for and is no device
abbrev pub IsApart : Option Text → (others : List (Option Text)) → Type 0
IsApart None others = Unit {0}
IsApart (Some name) others = is_device name ≡ false → list_any (has_name name) others ≡ false

-- each file of these that is written is apart from those after it, and from those that are read
abbrev pub AreApart : (written read : List (Option Text)) → Type 0
AreApart [] read = Unit {0}
AreApart (file ∷ files) read = IsApart file (files ++ read) × AreApart files read

-- what is read by a command that writes files
abbrev pub read_beside : Command → List (Option Text)
read_beside command = map (option_map (λ name. name.now)) (take 2 (files_of command))

-- No two texts are written to files of one name, and none to a file that is read, but to devices.
abbrev pub KeepsFiles : Command → Type 0
KeepsFiles command = let outputs = outputs_of command in AreApart (option_map (λ name. name.now) outputs.game
    ∷ option_map (λ path. even_name path.now) outputs.evidence ∷ option_map (λ path. odd_name path.now) outputs.evidence
    ∷ option_map (λ name. name.now) outputs.witness ∷ []) (read_beside command)

-- the name ends with this, whatever letters are capital ones
abbrev pub HasEnding : (ending : Text) → (name : Text) → Type 0
HasEnding ending name = (length ending ≤ length name)
    × (map to_ascii_lowercase (drop (length name - length ending) name) ≡ map to_ascii_lowercase ending)
