mod Unset
