-- Laws about the contracts of the face.
pub mod Alike
