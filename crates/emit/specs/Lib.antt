-- To believe: Appended (steps written into a list from one of its steps on; from the start on it is the list written).
-- Laws: CopyLaws (the copies out of line 0), PutLaws (the plain put from its stretches).
pub mod Appended
pub mod CopyLaws
pub mod PutLaws
