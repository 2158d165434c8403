-- Connections that a door gives and takes back, one more.
use Rattle.std.proofs.Common.{◌≡◌, ◌∙◌, ◌++◌, List, [], ◌∷◌, map, Option, Some, None, refl, sym, ap, subst, append_assoc, append-nil}
use Rattle.std.proofs.lemmas.List.{map-append}
use Rattle.desk_doors.specs.Doors.{Gives, HandsBack, StillTells, ToldConn}
use Rattle.desk_doors.specs.Passing.{DoorSides, GivesAll, HandsBackAll, PassesAll}

-- what a door tells from one moment to another
abbrev pub door_from : DoorSides → DoorSides → DoorSides
door_from first mid =
    record {
      waiting_before = first.waiting_before;
      waiting_after = mid.waiting_after;
      handed_before = first.handed_before;
      handed_after = mid.handed_after;
    }

pub still_tells : (told : Option (List ToldConn)) → StillTells told told
still_tells None = tt
still_tells (Some handed) = refl

pub still_as : (old new : Option (List ToldConn)) → new ≡ old → StillTells old new
still_as old None e = tt
still_as old (Some handed) e = sym e

pub handed_then : (old mid new : Option (List ToldConn)) (conn : ToldConn) → StillTells old mid → HandsBack mid new conn → HandsBack old new conn
handed_then old mid None conn still hands = tt
handed_then old mid (Some handed) conn still (before, is, more) = (before, was old mid still is, more)
  where
    was : (old mid : Option (List ToldConn)) → StillTells old mid → mid ≡ Some before → old ≡ Some before
    was old None still e = absurd cc
    was old (Some told) still e = still ∙ e

module _ {C : Type 0} (given back : C → ToldConn) where
  -- ---- none

  gives_none : (told : Option (List ToldConn)) → GivesAll given back [] told told
  gives_none None = tt
  gives_none (Some waiting) = refl

  takes_none : (old new : Option (List ToldConn)) → StillTells old new → HandsBackAll given back [] old new
  takes_none old None still = tt
  takes_none old (Some handed) still = (handed, still, sym (append-nil handed))

  pub none_passed : (door : DoorSides) → door.waiting_after ≡ door.waiting_before → StillTells door.handed_before door.handed_after
      → PassesAll given back [] door
  none_passed door waiting handed =
      record {
        gives = subst (λ o. GivesAll given back [] o door.waiting_after) waiting (gives_none door.waiting_after);
        takes = takes_none door.handed_before door.handed_after handed;
      }

  -- ---- one more

  gives_more : (conns : List C) (conn : C) (first mid last : Option (List ToldConn)) → GivesAll given back conns first mid → Gives mid last (given conn)
      → GivesAll given back (conns ++ conn ∷ []) first last
  gives_more conns conn first mid None all one = tt
  gives_more conns conn first mid (Some waiting) all one =
      subst (λ o. GivesAll given back conns first o) one all
      ∙ ap Some (sym (append_assoc (map given conns) (given conn ∷ []) waiting) ∙ ap (λ xs. xs ++ waiting) (sym (map-append given conns (conn ∷ []))))

  takes_more : (conns : List C) (conn : C) (first mid last : Option (List ToldConn)) → HandsBackAll given back conns first mid
      → HandsBack mid last (back conn) → HandsBackAll given back (conns ++ conn ∷ []) first last
  takes_more conns conn first mid None all one = tt
  takes_more conns conn first mid (Some handed) all (before, is, more) =
      let told = subst (λ o. HandsBackAll given back conns first o) is all in (
        told.0,
        told.1,
        more
            ∙ ap (λ xs. xs ++ back conn ∷ []) told.2
            ∙ append_assoc told.0 (map back conns) (back conn ∷ [])
            ∙ ap (λ xs. told.0 ++ xs) (sym (map-append back conns (conn ∷ []))),
      )

  pub passed_more : (conns : List C) (conn : C) (first mid : DoorSides) → mid.waiting_before ≡ first.waiting_after
      → mid.handed_before ≡ first.handed_after → PassesAll given back conns first → Gives mid.waiting_before mid.waiting_after (given conn)
      → HandsBack mid.handed_before mid.handed_after (back conn) → PassesAll given back (conns ++ conn ∷ []) (door_from first mid)
  passed_more conns conn first mid waiting handed gave gives takes =
      record {
        gives = gives_more conns conn first.waiting_before mid.waiting_before mid.waiting_after
            (subst (λ o. GivesAll given back conns first.waiting_before o) (sym waiting) gave.gives) gives;
        takes = takes_more conns conn first.handed_before mid.handed_before mid.handed_after
            (subst (λ o. HandsBackAll given back conns first.handed_before o) (sym handed) gave.takes) takes;
      }

  -- ---- none more

  takes_still : (conns : List C) (first mid last : Option (List ToldConn)) → HandsBackAll given back conns first mid → StillTells mid last
      → HandsBackAll given back conns first last
  takes_still conns first mid None all still = tt
  takes_still conns first mid (Some handed) all still = subst (λ o. HandsBackAll given back conns first o) still all

  pub passed_same : (conns : List C) (first mid : DoorSides) → mid.waiting_before ≡ first.waiting_after → mid.handed_before ≡ first.handed_after
      → PassesAll given back conns first → mid.waiting_after ≡ mid.waiting_before → StillTells mid.handed_before mid.handed_after
      → PassesAll given back conns (door_from first mid)
  passed_same conns first mid waiting handed gave same still =
      record {
        gives = subst (λ o. GivesAll given back conns first.waiting_before o) (sym (same ∙ waiting)) gave.gives;
        takes = takes_still conns first.handed_before mid.handed_before mid.handed_after
            (subst (λ o. HandsBackAll given back conns first.handed_before o) (sym handed) gave.takes) still;
      }
