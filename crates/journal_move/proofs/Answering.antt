-- What a move answers, from what came of loading its two sites.
use Rattle.std.proofs.Common.{◌≡◌, ◌≤◌, ℕ, List, Option, Some, None, Result, Ok, Err, subst, arith}
use Rattle.std.specs.Prelude.{IfSome}
use Rattle.panel_edges.specs.Faults.{Rose}
use Rattle.panel_edges.specs.Shelves.{file_of}
use Rattle.program_status.specs.declared.outcome.Outcome.{Outcome}
use Rattle.site_commands.specs.declared.loaded.Loaded.{Loaded}
use Rattle.site_commands.specs.declared.stop.Stop.{Stop}
use Rattle.site_commands.specs.declared.stop.Stop.TheVariants.{Absent, Refused, Cycle, ReadFault, NoMemory}
use Rattle.site_commands.specs.Commands.{AnswersBy}
use Rattle.site_commands.specs.Files.{Files}
use Rattle.site_commands.specs.Refusals.{old_stop_text, stop_text}
use Rattle.site_commands.specs.Sites.{Loads, file_digest}
use Rattle.site_types.specs.declared.site.Site.{Site}
use Rattle.journal_move.specs.Disks.{Disks}
use Rattle.journal_move.specs.Moves.{AnswersMove, MovesBetween, MovesOn, MovesTo, StopsAtSite, file_of_site}

-- a count that rose has risen since earlier, and until later
pub rose_before : (a b c : ℕ) → a ≤ b → Rose b c → Rose a c
rose_before a b c up rose = omega (arith, up, rose)

pub rose_until : (a b c : ℕ) → b ≤ c → Rose a b → Rose a c
rose_until a b c up rose = omega (arith, up, rose)

loads_more : (rose rose' : Type 0) → (rose → rose') → (file : Option (List ℕ)) (result : Result Site Stop) → Loads rose file result
    → Loads rose' file result
loads_more rose rose' more file (Err ReadFault) loads = more loads
loads_more rose rose' more file (Err NoMemory) loads = tt
loads_more rose rose' more (Some bytes) (Ok site) loads = loads
loads_more rose rose' more (Some bytes) (Err Absent) loads = loads
loads_more rose rose' more (Some bytes) (Err (Refused refusal)) loads = loads
loads_more rose rose' more (Some bytes) (Err (Cycle names)) loads = loads
loads_more rose rose' more None (Ok site) loads = absurd loads
loads_more rose rose' more None (Err Absent) loads = tt
loads_more rose rose' more None (Err (Refused refusal)) loads = absurd loads
loads_more rose rose' more None (Err (Cycle names)) loads = absurd loads

abbrev pub files_when : Option (List (List ℕ × List ℕ)) → ℕ → ℕ → Files
files_when held first last = record { held = held; faults_before = first; faults_after = last }

-- the old site isn't at hand
pub old_stops : (old_name new_name : List ℕ) (held : Option (List (List ℕ × List ℕ))) (first last : ℕ) (disks : Disks) (before after : Option (List ℕ))
    (outcome : Outcome) (stop : Stop) → IfSome held (λ files. Loads (Rose first last) (file_of old_name files) (Err stop))
    → StopsAtSite disks stop (old_stop_text stop) before after outcome
    → AnswersMove old_name new_name (files_when held first last) disks before after outcome
old_stops old_name new_name None first last disks before after outcome stop told stops = tt
old_stops old_name new_name (Some files) first last disks before after outcome stop told stops =
    record { result = Err stop; loads = told; did = stops }

answers_more : (rose rose' : Type 0) → (rose → rose') → (file : Option (List ℕ)) (does : Result Site Stop → Type 0) → AnswersBy rose file does
    → AnswersBy rose' file does
answers_more rose rose' more file does by = record {
  result = by.result;
  loads = loads_more rose rose' more file by.result by.loads;
  did = by.did;
}

-- it is, and the new one was looked for
pub moves_on : (old_name new_name : List ℕ) (held held' : Option (List (List ℕ × List ℕ))) (first mid last : ℕ) → first ≤ mid → mid ≤ last
    → (disks : Disks) (before after : Option (List ℕ)) (outcome : Outcome) (old : Loaded) → held' ≡ held
    → IfSome held (λ files. Loads (Rose first mid) (file_of old_name files) (Ok old.site))
    → IfSome held (λ files. old.digest ≡ file_digest (file_of old_name files))
    → MovesOn (file_of_site old) new_name (files_when held' mid last) disks before after outcome
    → AnswersMove old_name new_name (files_when held first last) disks before after outcome
moves_on old_name new_name held held' first mid last up up' disks before after outcome old same told digest on =
    by held told digest
    (subst (λ (o : Option (List (List ℕ × List ℕ))). MovesOn (file_of_site old) new_name (files_when o mid last) disks before after outcome) same on)
  where
    by : (o : Option (List (List ℕ × List ℕ))) → IfSome o (λ files. Loads (Rose first mid) (file_of old_name files) (Ok old.site))
        → IfSome o (λ files. old.digest ≡ file_digest (file_of old_name files))
        → MovesOn (file_of_site old) new_name (files_when o mid last) disks before after outcome
        → AnswersMove old_name new_name (files_when o first last) disks before after outcome
    by None told digest on = tt
    by (Some files) told digest on = record {
      result = Ok old.site;
      loads = loads_more (Rose first mid) (Rose first last) (rose_until first mid last up') (file_of old_name files) (Ok old.site) told;
      did =
          subst
          (λ (d : List ℕ). AnswersBy (Rose first last) (file_of new_name files) (MovesTo (record { site = old.site; digest = d })
          (file_digest (file_of new_name files)) disks before after outcome))
          digest
          (answers_more (Rose mid last) (Rose first last) (rose_before first mid last up) (file_of new_name files)
          (MovesTo (file_of_site old) (file_digest (file_of new_name files)) disks before after outcome) on);
    }

-- the new site isn't at hand
pub new_stops : (old : Loaded) (new_name : List ℕ) (held : Option (List (List ℕ × List ℕ))) (first last : ℕ) (disks : Disks)
    (before after : Option (List ℕ)) (outcome : Outcome) (stop : Stop) → IfSome held (λ files. Loads (Rose first last) (file_of new_name files) (Err stop))
    → StopsAtSite disks stop (stop_text stop) before after outcome
    → MovesOn (file_of_site old) new_name (files_when held first last) disks before after outcome
new_stops old new_name None first last disks before after outcome stop told stops = tt
new_stops old new_name (Some files) first last disks before after outcome stop told stops = record { result = Err stop; loads = told; did = stops }

-- both are at hand
pub new_moves : (old new : Loaded) (new_name : List ℕ) (held : Option (List (List ℕ × List ℕ))) (first last : ℕ) (disks : Disks)
    (before after : Option (List ℕ)) (outcome : Outcome) → IfSome held (λ files. Loads (Rose first last) (file_of new_name files) (Ok new.site))
    → IfSome held (λ files. new.digest ≡ file_digest (file_of new_name files))
    → MovesBetween (file_of_site old) (file_of_site new) disks before after outcome
    → MovesOn (file_of_site old) new_name (files_when held first last) disks before after outcome
new_moves old new new_name None first last disks before after outcome told digest moves = tt
new_moves old new new_name (Some files) first last disks before after outcome told digest moves = record {
  result = Ok new.site;
  loads = told;
  did = subst (λ (d : List ℕ). MovesBetween (file_of_site old) (record { site = new.site; digest = d }) disks before after outcome) digest moves;
}
